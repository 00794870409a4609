-- A row with gaps: what is there, and the key at a place.
use Rattle.std.proofs.lemmas.Grind.{common_steps}
use Rattle.std.proofs.Common.{◌≡◌, ℕ, zero, suc, ◌+◌, ◌<◌, ◌≤◌, true, false, List, [], ◌∷◌, ◌++◌, map, length, drop, set, get_or, is_some, Option, Some, None, refl, ap, sym, ◌∙◌, arith}
use Rattle.std.proofs.lemmas.Bool.{both_ways}
use Rattle.std.proofs.lemmas.List.{length-map}
use Rattle.std.specs.List.{slice_get}
use Rattle.std.specs.Option.{option_map, unwrap_or}
use Rattle.gw_kept.specs.declared.entry.Entry.{Entry}
use Rattle.gw_kept.specs.declared.entry.RequestKey.{RequestKey}
use Rattle.gw_kept.specs.Pairs.{key_of, is_same, bytes_for, AreDistinct, IsBounded}
use Rattle.gw_kept.specs.Classes.{last_place, has_pair}
use Rattle.gw_kept.specs.Rows.{Gapped, gapped, present, kept_in, keys_in, key_in, IsFound}
use Rattle.gw_kept.specs.Order.{IsTaken}
use Rattle.gw_kept.proofs.Places.{absent_head, other_key, same_itself}
use Rattle.gw_kept.proofs.Found.{not_kept, no_place, place_is}

-- ---- what is there

module _ {X : Type 0} where
  pub few_present : (xs : List (Option X)) → length (present xs) ≤ length xs
  few_present [] = omega arith
  few_present (Some x ∷ xs) = omega (arith, few_present xs)
  few_present (None ∷ xs) = omega (arith, few_present xs)

  pub present_append : (xs ys : List (Option X)) → present (xs ++ ys) ≡ present xs ++ present ys
  present_append [] ys = refl
  present_append (Some x ∷ xs) ys = ap (λ (l : List X). x ∷ l) (present_append xs ys)
  present_append (None ∷ xs) ys = present_append xs ys

  pub present_some : (xs : List X) → present (map (λ x. Some x) xs) ≡ xs
  present_some [] = refl
  present_some (x ∷ xs) = ap (λ (l : List X). x ∷ l) (present_some xs)

  -- as many as there are places: there is no gap
  pub whole_if : (xs : List (Option X)) → length xs ≤ length (present xs) → xs ≡ map (λ x. Some x) (present xs)
  whole_if [] h = refl
  whole_if (Some x ∷ xs) h = ap (λ (l : List (Option X)). Some x ∷ l) (whole_if xs (omega arith))
  whole_if (None ∷ xs) h = absurd (omega (arith, few_present xs))

  -- one pair less, where one was
  pub present_gap : (xs : List (Option X)) (p : ℕ) → is_some (get_or xs p None) ≡ true → length (present (set xs p None)) + 1 ≡ length (present xs)
  present_gap [] p h = absurd cc
  present_gap (Some x ∷ xs) zero h = omega arith
  present_gap (None ∷ xs) zero h = absurd cc
  present_gap (Some x ∷ xs) (suc p) h = omega (arith, present_gap xs p h)
  present_gap (None ∷ xs) (suc p) h = present_gap xs p h

  -- without a gap in front
  pub present_behind : (xs : List (Option X)) → get_or xs 0 None ≡ None → present (drop 1 xs) ≡ present xs
  present_behind [] h = refl
  present_behind (Some x ∷ xs) h = absurd cc
  present_behind (None ∷ xs) h = refl

  pub taken_below : (xs : List (Option X)) (p : ℕ) → is_some (get_or xs p None) ≡ true → p < length xs
  taken_below [] p h = absurd cc
  taken_below (x ∷ xs) zero h = omega arith
  taken_below (x ∷ xs) (suc p) h = omega (arith, taken_below xs p h)

-- ---- the foremost place

module _ {X : Type 0} where
  pub whole_some : (xs : List X) → map (λ x. Some x) xs ≡ map (λ x. Some x) (present (map (λ x. Some x) xs))
  whole_some xs = ap (map (λ x. Some x)) (sym (present_some xs))

  pub set_outside : (xs : List (Option X)) (p : ℕ) (o : Option X) → None ≡ slice_get xs p → xs ≡ set xs p o
  set_outside [] p o e = refl
  set_outside (x ∷ xs) zero o e = absurd cc
  set_outside (x ∷ xs) (suc p) o e = ap (λ (ys : List (Option X)). x ∷ ys) (set_outside xs p o e)

  some_at : (xs : List X) (p : ℕ) → get_or (map (λ x. Some x) xs) p None ≡ slice_get xs p
  some_at [] p = refl
  some_at (x ∷ xs) zero = refl
  some_at (x ∷ xs) (suc p) = some_at xs p

  -- where there is no gap, a place is the count of those before
  pub whole_at : (xs : List (Option X)) (p : ℕ) → xs ≡ map (λ x. Some x) (present xs) → get_or xs p None ≡ slice_get (present xs) p
  whole_at xs p whole = ap (λ (ys : List (Option X)). get_or ys p None) whole ∙ some_at (present xs) p

  pub none_there : (xs : List (Option X)) (p : ℕ) → None ≡ slice_get xs p → None ≡ get_or xs p None
  none_there [] p e = refl
  none_there (x ∷ xs) zero e = absurd cc
  none_there (x ∷ xs) (suc p) e = none_there xs p e

pub present_map : {X Y : Type 0} (f : X → Y) (xs : List (Option X)) → present (map (option_map f) xs) ≡ map f (present xs)
present_map f [] = refl
present_map f (Some x ∷ xs) = ap (λ l. f x ∷ l) (present_map f xs)
present_map f (None ∷ xs) = present_map f xs

-- the keys of what is there
pub keys_present : (row : List (Option Entry)) → present (keys_in row) ≡ map key_of (present row)
keys_present row = present_map key_of row

pub keys_count : (row : List (Option Entry)) → length (present (keys_in row)) ≡ length (present row)
keys_count row = ap length (keys_present row) ∙ length-map (present row) key_of

pub keys_some : (es : List Entry) → keys_in (map (λ e. Some e) es) ≡ map (λ k. Some k) (map key_of es)
keys_some [] = refl
keys_some (e ∷ es) = ap (λ (l : List (Option RequestKey)). Some (key_of e) ∷ l) (keys_some es)

-- ---- the key at a place

same_default : (o : Option RequestKey) (d e : RequestKey) → is_some o ≡ true → unwrap_or o d ≡ unwrap_or o e
same_default o d e h = grind arith

pub key_default : (keys : List (Option RequestKey)) (p : ℕ) (d e : RequestKey) → IsTaken keys p → key_in keys p d ≡ key_in keys p e
key_default keys p d e h = same_default (get_or keys p None) d e h

-- ---- where a key's pair stands, and its bytes

pub nowhere_none : (key : RequestKey) (row : List (Option Entry)) → IsFound (keys_in row) key None → bytes_for key (present row) ≡ None
nowhere_none key [] h = refl
nowhere_none key (Some e ∷ es) h = rw (other_key key (key_of e) (λ same. h 0 (ap (λ (k : RequestKey). Some k) (sym same)))) (nowhere_none key es (λ p. h (suc p)))
nowhere_none key (None ∷ es) h = nowhere_none key es (λ p. h (suc p))

pub none_nowhere : (key : RequestKey) (row : List (Option Entry)) → bytes_for key (present row) ≡ None → IsFound (keys_in row) key None
none_nowhere key [] none p e = absurd cc
none_nowhere key (Some x ∷ xs) none zero e = grind (arith, absent_head, both_ways, same_itself)
none_nowhere key (Some x ∷ xs) none (suc p) e = none_nowhere key xs (absent_head (is_same key (key_of x)) x.bytes (bytes_for key (present xs)) none).1 p e
none_nowhere key (None ∷ xs) none zero e = absurd cc
none_nowhere key (None ∷ xs) none (suc p) e = none_nowhere key xs none p e

-- pairs have keys of their own where no key stands at two places
pub distinct_row : (row : List (Option Entry)) → ((p q : ℕ) (k : RequestKey) → get_or (keys_in row) p None ≡ Some k → get_or (keys_in row) q None ≡ Some k → p ≡ q) → AreDistinct (present row)
distinct_row [] h = tt
distinct_row (Some e ∷ es) h = (
  nowhere_none (key_of e) es (λ p at. let same : 0 ≡ suc p = h 0 (suc p) (key_of e) refl at in absurd (omega arith)),
  distinct_row es (λ p q k a b. let next : suc p ≡ suc q = h (suc p) (suc q) k a b in omega arith),
)
distinct_row (None ∷ es) h = distinct_row es (λ p q k a b. let next : suc p ≡ suc q = h (suc p) (suc q) k a b in omega arith)

-- ---- whether a key has a pair

has_by : (o : Option ℕ) (key : RequestKey) (row : List (Option Entry)) → last_place key (map key_of (present row)) ≡ o → (p : ℕ) → get_or (keys_in row) p None ≡ Some key → is_some o ≡ true
has_by (Some q) key row is p at = refl
has_by None key row is p at = absurd (none_nowhere key row (not_kept key (present row) is) p at)

pub has_found : (o : Option ℕ) (key : RequestKey) (row : List (Option Entry)) → IsFound (keys_in row) key o → is_some o ≡ has_pair key (map key_of (present row))
has_found o key row at = grind (arith, has_by, no_place, nowhere_none)

no_some : (o : Option ℕ) → false ≡ is_some o → o ≡ None
no_some o e = grind arith

pub has_not : (key : RequestKey) (es : List Entry) → false ≡ has_pair key (map key_of es) → bytes_for key es ≡ None
has_not key es e = not_kept key es (no_some (last_place key (map key_of es)) e)

-- ---- with the same keys, or fewer pairs

pub same_keys : (row other : List (Option Entry)) → keys_in row ≡ keys_in other → map key_of (present row) ≡ map key_of (present other)
same_keys row other same = sym (keys_present row) ∙ ap present same ∙ keys_present other

pub bounded_few : (g : Gapped) (row : List (Option Entry)) (most : ℕ) → IsBounded (kept_in g) → length (present row) ≤ length (present g.row) → most ≡ g.most → IsBounded (kept_in (gapped row most))
bounded_few g row most b few same = grind (arith, common_steps)

-- where there is no gap, a key's place is that of its last pair
pub whole_place : (o : Option ℕ) (key : RequestKey) (row : List (Option Entry)) → row ≡ map (λ e. Some e) (present row) → AreDistinct (present row) → IsFound (keys_in row) key o → o ≡ last_place key (map key_of (present row))
whole_place None key row whole distinct none = sym (no_place key (present row) (nowhere_none key row none))
whole_place (Some p) key row whole distinct found =
    sym (place_is key (present row) p distinct (ap (λ (ks : List RequestKey). slice_get ks p) (sym (keys_present row)) ∙ sym (whole_at (keys_in row) p (whole_keys row whole)) ∙ found))
  where
    whole_keys : (row : List (Option Entry)) → row ≡ map (λ e. Some e) (present row) → keys_in row ≡ map (λ k. Some k) (present (keys_in row))
    whole_keys row whole = ap keys_in whole ∙ keys_some (present row) ∙ ap (map (λ k. Some k)) (sym (keys_present row))
