-- The lengths of runs, from one byte to the next.
use Rattle.std.proofs.Common.{◌≡◌, ℕ, suc, ◌+◌, ◌<◌, Bool, true, false, cond, List, [], ◌∷◌, length, get_or, take, drop, ◌++◌, ◌≤◌, ◌*◌, ◌-◌, ◌||◌, refl, arith, rules, add-one, drop-cons}
use Rattle.std.specs.List.{list_all}
use Rattle.std.specs.Str.Parse.{digits_value_after}
use Rattle.std.specs.Char.{digit_value}
use Rattle.std.specs.Int.{IsInRange}
use Rattle.std.proofs.lemmas.Str.{digit_value_digit}
use Rattle.std.proofs.lemmas.Bool.{and_parts}
use Rattle.std.proofs.lemmas.List.{take_all}
use Rattle.gw_base.specs.Bytes.{is_digit}
use Rattle.gw_text.specs.Runs.{run_len, begins}

-- the byte at i, and what is behind it
pub at_byte : (text : List ℕ) (i : ℕ) → i < length text → drop i text ≡ get_or text i 0 ∷ drop (i + 1) text
at_byte text i h = rw (add-one, drop-cons text i 0) refl

pub either : (P : Type 0) (a b : Bool) → a || b ≡ true → (a ≡ true → P) → (b ≡ true → P) → P
either P a b h f g = grind arith

-- what is behind the first byte
pub whole_tail : (b : ℕ) (bs : List ℕ) → take (length (b ∷ bs) - 1) (drop 1 (b ∷ bs)) ≡ bs
whole_tail b bs = take_all (length (b ∷ bs) - 1) bs (omega arith)

-- what a run is made of
run_is_step : (p : ℕ → Bool) (b : ℕ) (bs : List ℕ) (t : Bool) → p b ≡ t → list_all p (take (run_len p bs) bs) ≡ true → list_all p (take (cond t (suc (run_len p bs)) 0) (b ∷ bs)) ≡ true
run_is_step p b bs t is all = grind arith

pub run_is : (p : ℕ → Bool) (text : List ℕ) → list_all p (take (run_len p text) text) ≡ true
run_is p [] = refl
run_is p (b ∷ bs) = run_is_step p b bs (p b) refl (run_is p bs)

-- a run that the next byte ends
pub run_again : (p : ℕ → Bool) (front rest : List ℕ) → list_all p front ≡ true → begins p rest ≡ false → run_len p (front ++ rest) ≡ length front
run_again p [] [] all ends = refl
run_again p [] (b ∷ bs) all ends = rw ends refl
run_again p (b ∷ bs) rest all ends =
    let h = and_parts (p b) (list_all p bs) all in
    let e : run_len p (bs ++ rest) ≡ length bs = run_again p bs rest h.1 ends in
    rw (h.0, e) refl

-- no run is longer
pub run_longest : (p : ℕ → Bool) (other left : List ℕ) → list_all p other ≡ true → length other ≤ run_len p (other ++ left)
run_longest p [] left all = omega arith
run_longest p (b ∷ bs) left all =
    let h = and_parts (p b) (list_all p bs) all in
    let le = run_longest p bs left h.1 in
    rw h.0 (omega arith)

-- more digits write no smaller number
pub number_grows : (n : ℕ) (digits : List ℕ) → n ≤ digits_value_after 10 n digits
number_grows n [] = omega arith
number_grows n (b ∷ bs) = omega (arith, number_grows (n * 10 + digit_value b) bs)

digit_range : (b : ℕ) → is_digit b ≡ true → IsInRange 48 57 b
digit_range b e = search rules

-- the number with the next digit
pub next_digit : (digits : List ℕ) (i number total : ℕ) → i < length digits → is_digit (get_or digits i 0) ≡ true → digits_value_after 10 number (drop i digits) ≡ total
    → digits_value_after 10 (number * 10 + (get_or digits i 0 - 48)) (drop (i + 1) digits) ≡ total
next_digit digits i number total h is so_far = grind (arith, at_byte, digit_range, digit_value_digit)

run_le_step : (t : Bool) (n m : ℕ) → n ≤ m → cond t (suc n) 0 ≤ suc m
run_le_step t n m le = grind arith

pub run_len-le : (p : ℕ → Bool) (text : List ℕ) → run_len p text ≤ length text
run_len-le p [] = omega arith
run_len-le p (b ∷ bs) = run_le_step (p b) _ _ (run_len-le p bs)
