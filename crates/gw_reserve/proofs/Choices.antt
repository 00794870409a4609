-- Choices and what they own.
use Rattle.std.proofs.Common.{◌≡◌, ℕ, zero, suc, ◌+◌, ◌<◌, ◌≤◌, Bool, true, false, cond, List, [], ◌∷◌, ◌++◌, map, length, get_or, take, drop, slice_get, Option, None, Some, refl, sym, ap, ◌∙◌, arith, add-one, option_copied, is_some, not, Bor}
use Rattle.std.specs.Prelude.{filter, is_none}
use Rattle.std.specs.List.{range_with_len}
use Rattle.std.proofs.Math.ListN.{drop_of_length-le}
use Rattle.std.proofs.Math.Seq.{drop-cons}
use Rattle.gw_base.specs.declared.ids.CtxNum.{CtxNum}
use Rattle.gw_table.specs.Unused.{owned}
use Rattle.gw_reserve.specs.Owners.{choices, last_number, behind_last}

module _ {X : Type 0} where
  behind_first : (F : List X) (a : ℕ) → slice_get F (a + 1) ≡ slice_get (drop 1 F) a
  behind_first [] a = refl
  behind_first (x ∷ xs) a = ap (λ (k : ℕ). slice_get (x ∷ xs) k) (add-one a)

  shifted : (F : List X) (a k : ℕ) → map (slice_get F) (range_with_len (a + 1) k) ≡ map (slice_get (drop 1 F)) (range_with_len a k)
  shifted F a zero = refl
  shifted F a (suc k) = ap (λ o. o ∷ map (slice_get F) (range_with_len (a + 1 + 1) k)) (behind_first F a) ∙ ap (λ l. slice_get (drop 1 F) a ∷ l) (shifted F (a + 1) k)

  -- the first choice has the first
  pub choices_suc : (k : ℕ) (F : List X) → choices (suc k) F ≡ slice_get F 0 ∷ choices k (drop 1 F)
  choices_suc k F = ap (λ l. slice_get F 0 ∷ l) (shifted F 0 k)

  abbrev pub nothing : List X
  nothing = []

  pub take_none : (k : ℕ) → take k nothing ≡ nothing
  take_none zero = refl
  take_none (suc k) = refl

  -- they own the first ones
  pub owned_choices : (k : ℕ) (F : List X) → owned (choices k F) ≡ take k F
  owned_choices zero F = refl
  owned_choices (suc k) [] = ap (λ (l : List (Option X)). owned l) (choices_suc k []) ∙ owned_choices k [] ∙ take_none k
  owned_choices (suc k) (x ∷ xs) = ap (λ (l : List (Option X)). owned l) (choices_suc k (x ∷ xs)) ∙ ap (λ l. x ∷ l) (owned_choices k xs)

  -- ---- how many there are

  counted : (test : X → Bool) (x : X) (rest : List X) (b : Bool) → test x ≡ b → length (filter test (x ∷ rest)) ≡ cond b 1 0 + length (filter test rest)
  counted test x rest true e = ap (λ (t : Bool). length (cond t (x ∷ filter test rest) (filter test rest))) e ∙ omega arith
  counted test x rest false e = ap (λ (t : Bool). length (cond t (x ∷ filter test rest) (filter test rest))) e ∙ omega arith

  pub count_next : (test : X → Bool) (x : X) (left rest : List X) (b : Bool) → left ≡ x ∷ rest → test x ≡ b → length (filter test left) ≡ cond b 1 0 + length (filter test rest)
  count_next test x left rest b s e = ap (λ (l : List X). length (filter test l)) s ∙ counted test x rest b e

  pub count-append : (test : X → Bool) (xs ys : List X) → length (filter test (xs ++ ys)) ≡ length (filter test xs) + length (filter test ys)
  count-append test [] ys = omega arith
  count-append test (x ∷ xs) ys = by (test x) (count-append test xs ys)
    where
      by : (b : Bool) → length (filter test (xs ++ ys)) ≡ length (filter test xs) + length (filter test ys) → length (cond b (x ∷ filter test (xs ++ ys)) (filter test (xs ++ ys))) ≡ length (cond b (x ∷ filter test xs) (filter test xs)) + length (filter test ys)
      by true e = omega (arith, e)
      by false e = e

  -- ---- the search

  -- a free one is the first of those that are left, and another is passed by
  pub search_step : (test : X → Bool) (l : List X) (i : ℕ) (x d : X) (b : Bool) → i < length l → x ≡ get_or l i d → test x ≡ b → filter test (drop i l) ≡ cond b (x ∷ filter test (drop (i + 1) l)) (filter test (drop (i + 1) l))
  search_step test l i x d b h e f =
      ap (λ (k : List X). filter test k) (drop-cons l i d h ∙ ap (λ (k : ℕ). get_or l i d ∷ drop k l) (sym (add-one i)) ∙ ap (λ (y : X). y ∷ drop (i + 1) l) (sym e))
      ∙ ap (λ t. cond t (x ∷ filter test (drop (i + 1) l)) (filter test (drop (i + 1) l))) f

  -- the first that is free is found
  pub found : (test : X → Bool) (l old : List X) (i : ℕ) (x d : X) → i < length l → x ≡ get_or l i d → test x ≡ true → filter test (drop i l) ≡ old → (Some x ≡ slice_get old 0) × (filter test (drop (i + 1) l) ≡ drop 1 old)
  found test l old i x d h e f o =
      let s : old ≡ x ∷ filter test (drop (i + 1) l) = sym o ∙ search_step test l i x d true h e f in
      (ap (λ (k : List X). slice_get k 0) (sym s), ap (λ (k : List X). drop 1 k) (sym s))

  pub passed : (test : X → Bool) (l old : List X) (i : ℕ) (x d : X) → i < length l → x ≡ get_or l i d → test x ≡ false → filter test (drop i l) ≡ old → filter test (drop (i + 1) l) ≡ old
  passed test l old i x d h e f o = sym (search_step test l i x d false h e f) ∙ o

  -- none is left
  pub none_left : (test : X → Bool) (l old : List X) (i n : ℕ) → length l ≤ i → length l ≤ n → filter test (drop i l) ≡ old → (None ≡ slice_get old 0) × (filter test (drop n l) ≡ drop 1 old)
  none_left test l old i n h k o =
      let s : old ≡ [] = sym o ∙ ap (λ (t : List X). filter test t) (drop_of_length-le l h) in
      (ap (λ (t : List X). slice_get t 0) (sym s), ap (λ (t : List X). filter test t) (drop_of_length-le l k) ∙ ap (λ (t : List X). drop 1 t) (sym s))

  pub seen_none : (r : Option (Bor X)) (o : Option X) (b : Bool) → option_copied r ≡ o → is_some r ≡ b → is_none o ≡ not b
  seen_none None o b e f = ap (λ x. is_none x) (sym e) ∙ ap (λ x. not x) f
  seen_none (Some l) o b e f = ap (λ x. is_none x) (sym e) ∙ ap (λ x. not x) f

-- ---- cursors

-- how a cursor moves over what is owned, one after another
pub record Moves {X : Type 0} (last : ℕ → List X → ℕ) : Type 0 where
  pub none : (c : ℕ) → last c [] ≡ c
  pub both : (c : ℕ) (xs ys : List X) → last c (xs ++ ys) ≡ last (last c xs) ys

numbers_both : (c : ℕ) (xs ys : List CtxNum) → last_number c (xs ++ ys) ≡ last_number (last_number c xs) ys
numbers_both c [] ys = refl
numbers_both c (x ∷ xs) ys = numbers_both x.0 xs ys

slots_both : (c : ℕ) (xs ys : List ℕ) → behind_last c (xs ++ ys) ≡ behind_last (behind_last c xs) ys
slots_both c [] ys = refl
slots_both c (x ∷ xs) ys = slots_both (x + 1) xs ys

pub numbers_move : Moves last_number
numbers_move = record { none = λ c. refl; both = numbers_both }

pub slots_move : Moves behind_last
slots_move = record { none = λ c. refl; both = slots_both }
