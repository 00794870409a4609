-- How links are kept (own): a list of names, each once, and of each link the places of its two names in that list.
use Rattle.std.specs.Prelude.{◌≡◌, ℕ, ◌<◌, Bool, false, not, ◌&&◌, ◌||◌, ◌==◌, if◌then◌else◌, List, [], ◌∷◌, ◌++◌, length, map, slice_index_or, bytes_eq, All, AllPairs}
use Rattle.gw_base.specs.NameLists.{is_in}
use Rattle.gw_base.specs.declared.context_words.Flow.{Flow}
use Rattle.gw_base.specs.declared.context_words.Flow.TheVariants.{Bothway, Isolate, Oneway}
use Rattle.gw_base.specs.declared.context_words.Link.{Link}
use Rattle.gw_ctx.specs.declared.pairs.Pair.{Pair}

-- the link of the names at two places
abbrev pub link_at : List (List ℕ) → Pair → Link
link_at names p = record { a = slice_index_or names p.a []; b = slice_index_or names p.b []; flow = p.flow }

abbrev pub links_at : List (List ℕ) → List Pair → List Link
links_at names pairs = map (link_at names) pairs

-- it is about none at this place
abbrev pub is_off : ℕ → Pair → Bool
is_off place p = not (p.a == place || p.b == place)

-- it is about other two places than these, whatever their order
abbrev pub joins_others : ℕ → ℕ → Pair → Bool
joins_others a b p = not ((p.a == a && p.b == b) || (p.b == a && p.a == b))

-- of both ways none is kept
abbrev pub kept_pair : Pair → Flow → List Pair
kept_pair p Bothway = []
kept_pair p Isolate = p ∷ []
kept_pair p Oneway = p ∷ []

-- both of its names are in a list of so many
pub record IsWithin (count : ℕ) (p : Pair) : Type 0 where
  pub first : p.a < count
  pub second : p.b < count

-- each name stands once, and each link is about names of the list
pub record AreKept (names : List (List ℕ)) (pairs : List Pair) : Type 0 where
  pub apart : AllPairs (λ s t. bytes_eq s t ≡ false) names
  pub within : All (IsWithin (length names)) pairs

-- a name goes last, unless it is there
abbrev pub with_name : List ℕ → List (List ℕ) → List (List ℕ)
with_name name names = if is_in name names then names else names ++ name ∷ []

-- where a name stands once another is gone and the last one has taken its place
abbrev pub moved : ℕ → ℕ → ℕ → ℕ
moved last gone place = if place == last then gone else place

abbrev pub renumbered : ℕ → ℕ → Pair → Pair
renumbered last gone p = record { a = moved last gone p.a; b = moved last gone p.b; flow = p.flow }
