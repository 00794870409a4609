-- The kept pairs in the order of their keys (own): by which a key's pair is found without passing over the others.
-- Each place of the row has a number. They are numbered as pairs come, one after another, around a circle.
use Rattle.std.specs.Prelude.{◌≡◌, ◌≤◌, ◌<◌, ◌+◌, ◌-◌, ◌%◌, ◌^◌, ◌&&◌, nat_le, nat_lt, true, ℕ, List, [], ◌∷◌, map, length, slice_index, slice_index_or, Option, None, is_some, Result, Ok, Err}
use Rattle.std.specs.List.{All, AllPairs, Contains}
use Rattle.std.specs.List.Sorted.{IsPartitionPoint}
use Rattle.std.specs.Ordering.{nat_cmp, ordering_then}
use Rattle.std.specs.Cmp.{IsTotalOrder, nat_cmp_total, on_total, then_total}
use Rattle.std.specs.Cmp.Lexicographic.{slice_cmp, nat_list_cmp_total}
use Rattle.std.specs.declared.cmp.Ordering.{Ordering}
use Rattle.std.specs.declared.cmp.Ordering.TheVariants.{Less, Greater}
use Rattle.gw_msg.specs.declared.message.AckRange.{AckRange}
use Rattle.gw_kept.specs.declared.entry.RequestKey.{RequestKey}
use Rattle.gw_kept.specs.Forgotten.{is_named}
use Rattle.gw_kept.specs.Rows.{present, key_in, most_places}

-- by the bytes of the sender, and then by the number: the requests of one sender stand together
abbrev pub key_cmp : RequestKey → RequestKey → Ordering
key_cmp a b = ordering_then (slice_cmp nat_cmp a.mid b.mid) (nat_cmp a.id b.id)

pub key_total : IsTotalOrder key_cmp
key_total = then_total (on_total (λ (k : RequestKey). k.mid) nat_list_cmp_total) (on_total (λ (k : RequestKey). k.id) nat_cmp_total)

-- the number of a place, where the foremost has the first; and the place that has a number
abbrev pub number_at : (first : ℕ) → ℕ → ℕ
number_at first place = (first + place) % 2 ^ 16

abbrev pub place_of : (first : ℕ) → ℕ → ℕ
place_of first number = (number + (2 ^ 16 - first)) % 2 ^ 16

-- a pair stands at the place, and no gap
abbrev pub IsTaken : List (Option RequestKey) → ℕ → Type 0
IsTaken keys p = is_some (slice_index_or keys p None) ≡ true

-- the key at the one place comes before that at the other
abbrev pub Before : List (Option RequestKey) → ℕ → ℕ → Type 0
Before keys p q = (d : RequestKey) → key_cmp (key_in keys p d) (key_in keys q d) ≡ Less

-- these are the places of all the keys, each once, and the keys there rise
pub record IsSorted (keys : List (Option RequestKey)) (places : List ℕ) : Type 0 where
  pub within : All (IsTaken keys) places
  pub whole : (p : ℕ) → IsTaken keys p → Contains places p
  pub rises : AllPairs (Before keys) places

-- these are the numbers of all the keys, in the order of the keys
pub record IsOrder (keys : List (Option RequestKey)) (first : ℕ) (numbers : List ℕ) : Type 0 where
  pub places : List ℕ
  pub numbered : numbers ≡ map (number_at first) places
  pub sorted : IsSorted keys places
  pub around : first < 2 ^ 16
  pub few : length keys ≤ most_places
  pub many : length numbers ≡ length (present keys)

-- where a key stands in that order; or between which it would stand
abbrev pub IsStand : List (Option RequestKey) → (places : List ℕ) → RequestKey → Result ℕ ℕ → Type 0
IsStand keys places key (Ok i) = (i < length places) × (key_in keys (slice_index places i) key ≡ key)
IsStand keys places key (Err i) =
    (i ≤ length places) × IsPartitionPoint (λ p. key_cmp (key_in keys p key) key ≡ Less) (λ p. key_cmp (key_in keys p key) key ≡ Greater) places i

-- the key that stands at a place in the order
abbrev pub key_there : List (Option RequestKey) → (places : List ℕ) → ℕ → RequestKey → RequestKey
key_there keys places at d = key_in keys (slice_index places at) d

-- one range names what stands in the order from here to before there
abbrev pub IsSpan : List (Option RequestKey) → (places : List ℕ) → (mid : List ℕ) → AckRange → ℕ × ℕ → Type 0
IsSpan keys places mid range span =
    (at : ℕ) (d : RequestKey) → at < length places → (nat_le span.0 at && nat_lt at span.1) ≡ is_named mid (range ∷ []) (key_there keys places at d)
