-- Stretches of places whose requests are in chains (own): the chain of each place, and the keys of each chain.
use Rattle.std.specs.Prelude.{◌≡◌, ◌<◌, ℕ, nat_eq, true, cond, bytes_eq, List, [], ◌∷◌, length, map, slice_get, slice_index, Option, None, Some, All}
use Rattle.std.specs.Global.{Vec}
use Rattle.indexmap.specs.IndexMap.{get}
use Rattle.gw_base.specs.declared.key.Key.{Key}
use Rattle.gw_base.specs.declared.key.Key.TheVariants.{Term, Ctx, Whole}
use Rattle.gw_base.specs.Keys.{Among}
use Rattle.gw_table.specs.KeyLists.{IsInOrder, IsListOf}
use Rattle.gw_table.specs.Maps.{Maps}
use Rattle.gw_board.specs.Chained.{item_of}
use Rattle.gw_board.specs.Chains.{Chained, AreChains}
use Rattle.gw_board.specs.Core.{Place, AreKeysOf}
use Rattle.gw_board.specs.Waves.{is_pending}
use Rattle.gw_board.specs.declared.chains.Owners.{Owners}

-- ---- who has a key

-- the place that has it
abbrev pub place_named : Owners → Key → Option ℕ
place_named o (Term t) = get bytes_eq o.terms t
place_named o (Ctx n) = get nat_eq o.contexts n.0
place_named o Whole = None

abbrev pub chain_at : Owners → Option ℕ → Option ℕ
chain_at o None = None
chain_at o (Some p) = slice_get o.chains.items p

-- the chain of that place
abbrev pub chain_named : Owners → Key → Option ℕ
chain_named o k = chain_at o (place_named o k)

-- ---- a stretch

-- where the place is pending, these are its keys in the maps
abbrev pub HasItsKeys : Maps → Place → List Key → Type 0
HasItsKeys m p keys = is_pending p.standing ≡ true → AreKeysOf p.requested m keys

-- the keys of a chain
abbrev pub keys_at : List (List Key) → ℕ → List Key
keys_at lists g = item_of lists g

-- the keys that were collected for a chain
abbrev pub collected_at : List (Vec Key) → ℕ → List Key
collected_at lists g = keys_at (map (λ l. l.items) lists) g

-- the keys of each place are among those of its chain
abbrev pub AreGathered : List (Vec Key) → List ℕ → List (List Key) → Type 0
AreGathered lists chains footprints = (i : ℕ) → i < length footprints → Among (keys_at footprints i) (collected_at lists (slice_index chains i))

-- these are the keys, in order
abbrev pub IsListedAs : Vec Key → List Key → Type 0
IsListedAs collected keys = IsListOf keys collected.items

-- each key of a chain is of that chain alone
abbrev pub AreOfTheirChains : Owners → List (List Key) → Type 0
AreOfTheirChains o lists = (g : ℕ) → All (λ k. chain_named o k ≡ Some g) (keys_at lists g)

-- the requests of those places that are pending, each with the number of its place's chain
abbrev pub chained : List ℕ → List Place → List Chained
chained [] places = []
chained (g ∷ numbers) [] = []
chained (g ∷ numbers) (p ∷ places) = cond (is_pending p.standing) (record { chain = g; requested = p.requested } ∷ chained numbers places) (chained numbers places)

-- each place is in one of the chains, and these are chains, with their keys in order
pub record AreChained (numbers : List ℕ) (keys : List (List Key)) (m : Maps) (places : List Place) : Type 0 where
  pub as_many : length numbers ≡ length places
  pub numbered : All (λ g. g < length keys) numbers
  pub ordered : All IsInOrder keys
  pub chains : AreChains (keys_at keys) m (chained numbers places)
