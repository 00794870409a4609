-- The replies that are kept for repeats (own): pairs of a key, which is a sender and a number, and the bytes that
-- were sent.
use Rattle.std.specs.Prelude.{◌≡◌, ◌≤◌, ◌==◌, ◌&&◌, nat_lt, ℕ, Bool, if◌then◌else◌, bytes_eq, List, [], ◌∷◌, ◌++◌, length, slice_get, Option, Some, None, refl}
use Rattle.std.specs.Option.{option_map}
use Rattle.std.specs.Coded.{Coded, code_by, coded×, coded_list, coded_ℕ}
use Rattle.circular_buffer.specs.Buffer.{keep_last}
use Rattle.gw_kept.specs.declared.entry.Entry.{Entry}
use Rattle.gw_kept.specs.declared.entry.RequestKey.{RequestKey}

-- the pairs, oldest first, and how many are kept at most
pub record KeptList : Type 0 where
  pub pairs : List Entry
  pub most : ℕ

abbrev pub kept_list : List Entry → ℕ → KeptList
kept_list pairs most = record { pairs = pairs; most = most }

-- how many pairs a list may keep at most
abbrev pub most_kept : ℕ
most_kept = 4096

-- every kept list keeps to its limit, which is 1 to 4,096
pub record IsBounded (k : KeptList) : Type 0 where
  pub few : length k.pairs ≤ k.most
  pub some : 1 ≤ k.most
  pub limit : k.most ≤ most_kept

abbrev pub key_by : (mid : List ℕ) → ℕ → RequestKey
key_by mid id = record { id = id; mid = mid }

abbrev pub key_of : Entry → RequestKey
key_of e = key_by e.mid e.id.0

-- the same sender, byte for byte, and the same number
abbrev pub is_same : RequestKey → RequestKey → Bool
is_same a b = a.id == b.id && bytes_eq a.mid b.mid

-- the bytes of the key's pair
abbrev pub bytes_for : RequestKey → List Entry → Option (List ℕ)
bytes_for key [] = None
bytes_for key (e ∷ es) = if is_same key (key_of e) then Some e.bytes else bytes_for key es

-- the bytes of the pair at a place, from the oldest on
abbrev pub bytes_at : ℕ → List Entry → Option (List ℕ)
bytes_at place pairs = option_map (λ e. e.bytes) (slice_get pairs place)

-- no two pairs have one key
abbrev pub AreDistinct : List Entry → Type 0
AreDistinct [] = Unit {0}
AreDistinct (e ∷ es) = (bytes_for (key_of e) es ≡ None) × AreDistinct es

-- nothing kept yet
abbrev pub none_kept : ℕ → KeptList
none_kept most = kept_list [] most

-- the pair goes last, and the last so many are kept
abbrev pub with_pair : KeptList → Entry → KeptList
with_pair k e = kept_list (keep_last k.most (k.pairs ++ e ∷ [])) k.most

-- the pair that is dropped then, the oldest
abbrev pub dropped_by : KeptList → Entry → Option Entry
dropped_by k e = if nat_lt (length k.pairs) k.most then None else slice_get (k.pairs ++ e ∷ []) 0

-- ---- codes, by which values of models are compared

abbrev coded_bytes : Coded (List ℕ)
coded_bytes = coded_list coded_ℕ

abbrev pub coded_entry : Coded Entry
coded_entry =
    code_by (List ℕ × (ℕ × List ℕ)) (coded× coded_bytes (coded× coded_ℕ coded_bytes))
    (λ e. (e.mid, (e.id.0, e.bytes))) (λ p. record { mid = p.0; id = record { 0 = p.1.0 }; bytes = p.1.1 }) (λ _. refl)

abbrev pub coded_kept : Coded KeptList
coded_kept = code_by (List Entry × ℕ) (coded× (coded_list coded_entry) coded_ℕ) (λ k. (k.pairs, k.most)) (λ p. kept_list p.0 p.1) (λ _. refl)
