-- The kept pairs in a row (own, for private functions): oldest first, with a gap in the place of each that was
-- removed.
use Rattle.std.specs.Prelude.{◌≡◌, ◌≢◌, ◌+◌, min, ℕ, if◌then◌else◌, List, [], ◌∷◌, map, slice_index_or, Option, Some, None, option_map, unwrap_or, refl}
use Rattle.std.specs.Coded.{Coded, code_by, coded×, coded_list, coded_option, coded_ℕ}
use Rattle.gw_msg.specs.declared.message.AckRange.{AckRange}
use Rattle.gw_kept.specs.declared.entry.Entry.{Entry}
use Rattle.gw_kept.specs.declared.entry.RequestKey.{RequestKey}
use Rattle.gw_kept.specs.Pairs.{KeptList, kept_list, coded_entry, key_of}
use Rattle.gw_kept.specs.Forgotten.{is_named}

-- the places, the oldest first, and how many pairs are kept at most
pub record Gapped : Type 0 where
  pub row : List (Option Entry)
  pub most : ℕ

abbrev pub gapped : List (Option Entry) → ℕ → Gapped
gapped row most = record { row = row; most = most }

-- how many places there may be, so that gaps are seldom closed
abbrev pub most_places : ℕ
most_places = 5120

abbrev pub places_for : (most : ℕ) → ℕ
places_for most = most + min most 1024

-- what is there, without the gaps
abbrev pub present : {X : Type 0} → List (Option X) → List X
present [] = []
present (Some x ∷ xs) = x ∷ present xs
present (None ∷ xs) = present xs

-- the pairs that are kept
abbrev pub kept_in : Gapped → KeptList
kept_in g = kept_list (present g.row) g.most

-- there is no gap
abbrev pub IsWhole : Gapped → Type 0
IsWhole g = g.row ≡ map (λ e. Some e) (present g.row)

-- the keys, place by place
abbrev pub keys_in : List (Option Entry) → List (Option RequestKey)
keys_in row = map (option_map key_of) row

-- the key at a place
abbrev pub key_in : List (Option RequestKey) → ℕ → RequestKey → RequestKey
key_in keys place d = unwrap_or (slice_index_or keys place None) d

-- the key's pair stands at this place, or at none
abbrev pub IsFound : List (Option RequestKey) → RequestKey → Option ℕ → Type 0
IsFound keys key (Some place) = slice_index_or keys place None ≡ Some key
IsFound keys key None = (place : ℕ) → slice_index_or keys place None ≢ Some key

-- the bytes of the pair at a place
abbrev pub bytes_there : ℕ → List (Option Entry) → Option (List ℕ)
bytes_there place row = option_map (λ e. e.bytes) (slice_index_or row place None)

-- what an acknowledgement leaves at a place
abbrev pub left_of : (mid : List ℕ) → List AckRange → Option Entry → Option Entry
left_of mid ranges None = None
left_of mid ranges (Some e) = if is_named mid ranges (key_of e) then None else Some e

-- ---- codes, by which values of models are compared

abbrev pub coded_gapped : Coded Gapped
coded_gapped = code_by (List (Option Entry) × ℕ) (coded× (coded_list (coded_option coded_entry)) coded_ℕ) (λ g. (g.row, g.most)) (λ p. gapped p.0 p.1) (λ _. refl)
