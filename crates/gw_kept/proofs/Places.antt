-- The place of a key's last pair: among the last so many, and with one more pair.
use Rattle.std.proofs.Common.{◌≡◌, ℕ, zero, suc, ◌+◌, nat_le, Bool, true, false, cond, List, [], ◌∷◌, ◌++◌, length, drop, Option, Some, None, refl, ap, sym, ◌∙◌, arith}
use Rattle.std.specs.Ordering.{is_eq}
use Rattle.std.specs.List.{All}
use Rattle.std.specs.Option.{is_some}
use Rattle.std.proofs.lemmas.Bool.{false_from_ne_true, le-leb, lt-leb}
use Rattle.std.proofs.lemmas.List.Elements.{All-nil, All-cons, All-head, All-tail, All-drop}
use Rattle.std.proofs.lemmas.Option.{cond_some}
use Rattle.std.proofs.lemmas.Map.Text.{is_eq-slice_cmp}
use Rattle.std.proofs.lemmas.Slice.Eq.{bytes_eq-Decides}
use Rattle.gw_kept.specs.declared.entry.RequestKey.{RequestKey}
use Rattle.gw_kept.specs.Pairs.{is_same}
use Rattle.gw_kept.specs.Classes.{or_here, last_place, has_pair}
use Rattle.gw_kept.specs.Order.{key_cmp}

-- ---- a key that no pair has

none_parts : (o : Option ℕ) (t : Bool) → or_here 1 o (cond t (Some 0) None) ≡ None → (t ≡ false) × (o ≡ None)
none_parts o t e = grind arith

pub none_behind : (key k : RequestKey) (ks : List RequestKey) → last_place key (k ∷ ks) ≡ None → (is_same k key ≡ false) × (last_place key ks ≡ None)
none_behind key k ks e = none_parts (last_place key ks) (is_same k key) e

abbrev pub Others : RequestKey → List RequestKey → Type 0
Others key = All (λ k. is_same k key ≡ false)

pub others_of : (key : RequestKey) (ks : List RequestKey) → last_place key ks ≡ None → Others key ks
others_of key [] e = All-nil (λ k. is_same k key ≡ false)
others_of key (k ∷ ks) e = let h = none_behind key k ks e in All-cons (λ k. is_same k key ≡ false) k ks h.0 (others_of key ks h.1)

pub none_of : (key : RequestKey) (ks : List RequestKey) → Others key ks → last_place key ks ≡ None
none_of key [] all = refl
none_of key (k ∷ ks) all =
    let P : RequestKey → Type 0 = λ k. is_same k key ≡ false in
    rw (none_of key ks (All-tail P k ks all), All-head P k ks all) refl

-- ---- among the last so many

le_suc : (d q p : ℕ) → q + 1 ≡ p → nat_le (suc d) p ≡ nat_le d q
le_suc d q p e = grind arith

among_step : (o : Option ℕ) (same b : Bool) (d p : ℕ) → ((q : ℕ) → o ≡ Some q → nat_le d q ≡ b) → (o ≡ None → b ≡ false) → or_here 1 o (cond same (Some 0) None) ≡ Some p → nat_le (suc d) p ≡ b
among_step (Some q) same b d p some none e = le_suc d q p (let is : q + 1 ≡ p = cc in is) ∙ some q refl
among_step None same b d p some none e = lt-leb (suc d) p (omega (arith, (cond_some same 0 p e).1)) ∙ sym (none refl)

-- the last pair of a key is one of those behind the first so many, or else none of these has the key
pub among_last : (key : RequestKey) (d : ℕ) (pairs : List RequestKey) (p : ℕ) → last_place key pairs ≡ Some p → nat_le d p ≡ has_pair key (drop d pairs)
among_last key zero pairs p e = le-leb 0 p (omega arith) ∙ sym (ap is_some e)
among_last key (suc d) [] p e = absurd cc
among_last key (suc d) (k ∷ ks) p e =
    among_step (last_place key ks) (is_same k key) (has_pair key (drop d ks)) d p (among_last key d ks)
    (λ none. ap is_some (none_of key (drop d ks) (All-drop (λ j. is_same j key ≡ false) d ks (others_of key ks none)))) e

-- ---- with one more pair

step : (same t : Bool) (n : ℕ) (o h : Option ℕ) → or_here 1 (cond same (Some n) o) h ≡ cond same (Some (suc n)) (or_here 1 o h)
step same t n o h = grind arith

pub one_more : (key k : RequestKey) (pairs : List RequestKey) → last_place key (pairs ++ k ∷ []) ≡ cond (is_same k key) (Some (length pairs)) (last_place key pairs)
one_more key k [] = refl
one_more key k (p ∷ ps) = grind (arith, one_more key k ps, step)

-- ---- keys that tie in the order are the same

pub key_test : (a b : RequestKey) → is_eq (key_cmp a b) ≡ is_same a b
key_test a b = grind (arith, is_eq-slice_cmp)

-- ---- keys that are the same

pub same_key : (a b : RequestKey) → is_same a b ≡ true → a ≡ b
same_key a b e = grind (arith, bytes_eq-Decides)

pub same_itself : (a : RequestKey) → is_same a a ≡ true
same_itself a = grind (arith, bytes_eq-Decides)

pub same_back : (a b : RequestKey) → is_same a b ≡ is_same b a
same_back a b = grind (arith, bytes_eq-Decides)

pub other_key : (a b : RequestKey) → (a ≡ b → ⊥) → is_same a b ≡ false
other_key a b f = false_from_ne_true (is_same a b) (λ e. f (same_key a b e))

-- a key that the first pair does not have, nor any behind it
pub absent_head : (t : Bool) (b : List ℕ) (rest : Option (List ℕ)) → cond t (Some b) rest ≡ None → (t ≡ false) × (rest ≡ None)
absent_head t b rest e = grind arith
