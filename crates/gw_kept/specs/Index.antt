-- The index by which a burst's classes are found (own): the place of the last pair of each key that is requested.
use Rattle.std.specs.Prelude.{nat_le, ◌≡◌, ◌≤◌, ◌<◌, ◌+◌, ◌^◌, ◌||◌, Bool, true, false, if◌then◌else◌, ℕ, List, [], ◌∷◌, length, Option, Some, None}
use Rattle.std.specs.BTreeMap.{get}
use Rattle.circular_buffer.specs.Buffer.{keep_last}
use Rattle.gw_kept.specs.declared.entry.RequestKey.{RequestKey}
use Rattle.gw_kept.specs.declared.point.Point.{Point}
use Rattle.gw_kept.specs.declared.point.Point.TheVariants as point
use Rattle.gw_kept.specs.declared.index.Index.{Index}
use Rattle.gw_kept.specs.Pairs.{is_same}
use Rattle.gw_kept.specs.Rows.{Gapped, kept_in}
use Rattle.gw_kept.specs.Classes.{Standing, keys_of, last_place, has_pair, most_new}
use Rattle.gw_kept.specs.Order.{key_cmp}

-- one of these requests has the key
abbrev pub is_requested : RequestKey → List Point → Bool
is_requested key [] = false
is_requested key (point.Request k ∷ rest) = is_same k key || is_requested key rest
is_requested key (point.Ack r ∷ rest) = is_requested key rest
is_requested key (point.Nothing ∷ rest) = is_requested key rest

-- a request is one of those
abbrev pub IsRequested : Point → List Point → Type 0
IsRequested (point.Request k) requested = is_requested k requested ≡ true
IsRequested (point.Ack r) requested = Unit {0}
IsRequested point.Nothing requested = Unit {0}

-- A request comes behind an acknowledgement: one of these, or one before them.
abbrev pub requests_behind : (acknowledged : Bool) → List Point → Bool
requests_behind acknowledged [] = false
requests_behind true (point.Request k ∷ rest) = true
requests_behind false (point.Request k ∷ rest) = requests_behind false rest
requests_behind acknowledged (point.Ack r ∷ rest) = requests_behind true rest
requests_behind acknowledged (point.Nothing ∷ rest) = requests_behind acknowledged rest

-- what an item is to an index: where acknowledgements have no say, they are nothing
abbrev pub seen : (acknowledged : Bool) → Point → Point
seen acknowledged (point.Request k) = point.Request k
seen acknowledged (point.Ack r) = if acknowledged then point.Ack r else point.Nothing
seen acknowledged point.Nothing = point.Nothing

-- What is kept at a point: the last so many of all pairs there were, where nothing was removed, or else the pairs of
-- a row.
abbrev pub AreLeft : (most : ℕ) → Option Gapped → Standing → Type 0
AreLeft most None s = s.kept ≡ keep_last most s.pairs
AreLeft most (Some g) s = (keys_of (kept_in g) ≡ s.kept) × (g.most ≡ most)

-- the place of a key's last pair where it is kept: by what is left, or else where it is none before the oldest
abbrev pub kept_at : Option ℕ → RequestKey → (oldest : ℕ) → Option Gapped → Option ℕ
kept_at None key oldest left = None
kept_at (Some place) key oldest None = if nat_le oldest place then Some place else None
kept_at (Some place) key oldest (Some g) = if has_pair key (keys_of (kept_in g)) then Some place else None

-- an index of these requests, where a burst stands so; at most so many of the pairs are new
pub record IsIndex (requested : List Point) (index : Index) (s : Standing) : Type 0 where
  pub places : (q : RequestKey) → get key_cmp index.places q ≡ (if is_requested q requested then Some (last_place q s.pairs) else None)
  pub total : index.total ≡ length s.pairs
  pub before : index.before ≤ length s.pairs
  pub few : length s.pairs ≤ index.before + most_new
  pub small : index.before < 2 ^ 63
  pub left : AreLeft index.most index.left s
  pub among : (q : RequestKey) → last_place q s.pairs ≡ None → last_place q s.kept ≡ None
