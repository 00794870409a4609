-- The classes of a burst's items, from keys and acknowledgements alone (own): which request is a repeat, which is
-- new, and which is over.
use Rattle.std.specs.Prelude.{nat_lt, ◌+◌, ◌-◌, ℕ, Bool, not, if◌then◌else◌, List, [], ◌∷◌, ◌++◌, map, length, Option, Some, None, is_some}
use Rattle.std.specs.List.{filter}
use Rattle.circular_buffer.specs.Buffer.{keep_last}
use Rattle.gw_msg.specs.declared.message.Item.{Item}
use Rattle.gw_msg.specs.declared.message.Item.TheVariants as item
use Rattle.gw_kept.specs.declared.entry.RequestKey.{RequestKey}
use Rattle.gw_kept.specs.declared.point.Point.{Point}
use Rattle.gw_kept.specs.declared.point.Point.TheVariants as point
use Rattle.gw_kept.specs.declared.point.Removal.{Removal}
use Rattle.gw_kept.specs.declared.class.Class.{Class}
use Rattle.gw_kept.specs.declared.class.Class.TheVariants.{New, Repeat, Over, Nothing}
use Rattle.gw_kept.specs.declared.class.Source.{Source}
use Rattle.gw_kept.specs.declared.class.Source.TheVariants as source
use Rattle.gw_kept.specs.Pairs.{KeptList, key_of, is_same}
use Rattle.gw_kept.specs.Forgotten.{is_named}

-- how many new requests a burst may have
abbrev pub most_new : ℕ
most_new = 1024

-- what an item of this sender's is to the kept replies
abbrev pub point_in : (mid : List ℕ) → Item → Point
point_in mid (item.Request r) = point.Request (record { id = r.id.0; mid = mid })
point_in mid (item.Ack ranges) = point.Ack (record { mid = mid; ranges = ranges })
point_in mid item.Ignored = point.Nothing

-- the keys of the kept pairs
abbrev pub keys_of : KeptList → List RequestKey
keys_of k = map key_of k.pairs

-- the place of the key's last pair, from the first on
abbrev pub or_here : ℕ → Option ℕ → Option ℕ → Option ℕ
or_here step (Some place) here = Some (place + step)
or_here step None here = here

abbrev pub last_place : RequestKey → List RequestKey → Option ℕ
last_place key [] = None
last_place key (k ∷ ks) = or_here 1 (last_place key ks) (if is_same k key then Some 0 else None)

-- Where a burst stands: the keys of all pairs there were, those before the burst first, and of those that are kept at
-- this point.
pub record Standing : Type 0 where
  pub pairs : List RequestKey
  pub kept : List RequestKey

-- before its first item
abbrev pub standing_of : KeptList → Standing
standing_of k = record { pairs = keys_of k; kept = keys_of k }

-- the key has a pair among these
abbrev pub has_pair : RequestKey → List RequestKey → Bool
has_pair key keys = is_some (last_place key keys)

-- the place of the key's pair among all that there were, where it is kept
abbrev pub kept_place : RequestKey → Standing → Option ℕ
kept_place key s = if has_pair key s.kept then last_place key s.pairs else None

-- a pair is one of those that were kept before the burst, or belongs to one of its new requests
abbrev pub source_at : (old : ℕ) → ℕ → Source
source_at old place = if nat_lt place old then source.Kept place else source.Place (place - old)

-- A request is a repeat if its key's pair is kept at that point. Else it is new, if fewer than so many came before it.
abbrev pub class_of : (old : ℕ) → List RequestKey → Option ℕ → Class
class_of old pairs (Some place) = Repeat (source_at old place)
class_of old pairs None = if nat_lt (length pairs - old) most_new then New else Over

-- no other item has a class of these
abbrev pub class_at : (old : ℕ) → Point → Standing → Class
class_at old (point.Request key) s = class_of old s.pairs (kept_place key s)
class_at old (point.Ack r) s = Nothing
class_at old point.Nothing s = Nothing

-- the reply of a new request is kept, as one of the last so many
abbrev pub with_key : (most : ℕ) → RequestKey → Standing → Standing
with_key most key s = record { pairs = s.pairs ++ key ∷ []; kept = keep_last most (s.kept ++ key ∷ []) }

abbrev pub behind_request : (most : ℕ) → Class → RequestKey → Standing → Standing
behind_request most New key s = with_key most key s
behind_request most (Repeat from) key s = s
behind_request most Over key s = s
behind_request most Nothing key s = s

-- what an acknowledgement names is kept no longer
abbrev pub without : Removal → Standing → Standing
without r s = record { pairs = s.pairs; kept = filter (λ k. not (is_named r.mid r.ranges k)) s.kept }

-- where the burst stands behind an item; nothing else changes what is kept
abbrev pub behind : (most old : ℕ) → Point → Standing → Standing
behind most old (point.Request key) s = behind_request most (class_at old (point.Request key) s) key s
behind most old (point.Ack r) s = without r s
behind most old point.Nothing s = s

-- the classes of items in turn, from there on
abbrev pub classes_behind : (most old : ℕ) → Standing → List Point → List Class
classes_behind most old s [] = []
classes_behind most old s (p ∷ rest) = class_at old p s ∷ classes_behind most old (behind most old p s) rest

-- the classes of a burst
abbrev pub classes_of : KeptList → List Point → List Class
classes_of k = classes_behind k.most (length k.pairs) (standing_of k)
