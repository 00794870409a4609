-- Numbers that are marked by a bit each.
use Rattle.std.proofs.Common.{◌≡◌, ◌≢◌, ℕ, zero, ◌/◌, ◌%◌, ◌^◌, ◌<◌, ◌==◌, not, Bool, false, ◌||◌, List, [], ◌∷◌, ◌++◌, ◌+◌, length, drop, get_or, replicate, refl, sym, ◌∙◌, ap, arith, bit_and}
use Rattle.std.specs.List.{list_any}
use Rattle.std.proofs.Math.Nat.{div-add-mod}
use Rattle.std.proofs.lemmas.Bool.{eqb-false, eqb-true, ne_eqb}
use Rattle.std.proofs.lemmas.Nat.{pow_apart, pow_pos, and_or_apart, and_or_self}
use Rattle.std.proofs.lemmas.List.{get_or-set_other, get_or-set_same, get_or-replicate, get_or_past, length-replicate}
use Rattle.std.proofs.lemmas.Bool.Decides.{eqb_tells, leb_tells}
use Rattle.std.specs.Int.Bits.{and_zero_l}
use Rattle.std.proofs.lemmas.Grind.{get_or-set_at}
use Rattle.gw_desc.specs.NumberSet.{is_in_set, with_mark}
use Rattle.gw_desc.specs.Twice.{has_number_twice}
use Rattle.gw_desc.specs.Checks.{number_in, numbers_in}
use Rattle.gw_desc.specs.declared.descriptor.MediaPart.{MediaPart}
use Rattle.gw_desc.proofs.Counting.{at_place}

-- the bit of a number, or 0
abbrev mark : List ℕ → ℕ → ℕ
mark seen q = bit_and (get_or seen (q / 64) 0) (2 ^ (q % 64))

mark-self : (seen : List ℕ) (n : ℕ) → n / 64 < length seen → mark (with_mark seen n) n ≢ 0
unfolding with_mark
mark-self seen n h none = grind (arith, and_or_self, get_or-set_same, pow_pos)

mark-other : (seen : List ℕ) (n q : ℕ) → n / 64 < length seen → q ≢ n → mark (with_mark seen n) q ≡ mark seen q
unfolding with_mark
mark-other seen n q h other = grind (arith, and_or_apart, eqb_tells, get_or-set_at, get_or-set_other, pow_apart)

-- what is marked afterwards: that number, and what was
marked_one : (seen : List ℕ) (n q : ℕ) (t : Bool) → (n == q) ≡ t → n / 64 < length seen → is_in_set (with_mark seen n) q ≡ (t || is_in_set seen q)
unfolding is_in_set
marked_one seen n q t e h = grind (arith, mark-self, mark-other, eqb-false, eqb-true, ne_eqb)

or_swap : (a b c d : Bool) → ((a || b) || (c || d)) ≡ ((a || c) || (b || d))
or_swap a b c d = grind arith

any_marked : (seen : List ℕ) (n : ℕ) (rest : List ℕ) → n / 64 < length seen → list_any (is_in_set (with_mark seen n)) rest ≡ (list_any (λ q. n == q) rest || list_any (is_in_set seen) rest)
any_marked seen n [] h = refl
any_marked seen n (q ∷ qs) h =
    rw (marked_one seen n q (n == q) refl h, any_marked seen n qs h) (or_swap (n == q) (is_in_set seen q) (list_any (λ k. n == k) qs) (list_any (is_in_set seen) qs))

-- a number that has no mark yet, and those behind it
pub mark_next : (seen : List ℕ) (n : ℕ) (rest : List ℕ) → length seen ≡ 1024 → n < 2 ^ 16 → is_in_set seen n ≡ false
    → (list_any (is_in_set seen) (n ∷ rest) || has_number_twice (n ∷ rest)) ≡ (list_any (is_in_set (with_mark seen n)) rest || has_number_twice rest)
unfolding has_number_twice
mark_next seen n rest room small none = grind (arith, any_marked, div-add-mod)

unmarked_at : (n i : ℕ) → get_or (replicate n zero) i 0 ≡ 0
unmarked_at n i = grind (arith, get_or-replicate, get_or_past, leb_tells, length-replicate)

no_mark : (seen : List ℕ) (n : ℕ) → get_or seen (n / 64) 0 ≡ 0 → is_in_set seen n ≡ false
unfolding is_in_set
no_mark seen n clear = ap (λ (w : ℕ). not (bit_and w (2 ^ (n % 64)) == 0)) clear ∙ ap (λ (w : ℕ). not (w == 0)) (and_zero_l (2 ^ (n % 64)))

no_marks : (seen numbers : List ℕ) → ((i : ℕ) → get_or seen i 0 ≡ 0) → list_any (is_in_set seen) numbers ≡ false
no_marks seen [] clear = refl
no_marks seen (n ∷ ns) clear = rw (no_mark seen n (clear (n / 64)), no_marks seen ns clear) refl

pub none_marked : (numbers : List ℕ) → list_any (is_in_set (replicate 1024 zero)) numbers ≡ false
none_marked numbers = no_marks (replicate 1024 zero) numbers (unmarked_at 1024)

-- ---- the parts of a Media, from one to the next

-- that a number is marked, or stands twice among those that are left
abbrev pub left_twice : List ℕ → List ℕ → Bool
left_twice seen numbers = list_any (is_in_set seen) numbers || has_number_twice numbers

next_part : (parts : List MediaPart) (i : ℕ) (p : MediaPart) → i < length parts → p ≡ get_or parts i p → numbers_in (drop i parts) ≡ number_in p ++ numbers_in (drop (i + 1) parts)
next_part parts i p h is = ap numbers_in (at_place parts i p h) ∙ ap (λ (q : MediaPart). number_in q ++ numbers_in (drop (i + 1) parts)) (sym is)

pub past_other : (seen : List ℕ) (parts : List MediaPart) (i : ℕ) (p : MediaPart) → i < length parts → p ≡ get_or parts i p → number_in p ≡ []
    → left_twice seen (numbers_in (drop i parts)) ≡ left_twice seen (numbers_in (drop (i + 1) parts))
past_other seen parts i p h is none = ap (left_twice seen) (next_part parts i p h is ∙ ap (λ (front : List ℕ). front ++ numbers_in (drop (i + 1) parts)) none)

pub past_number : (seen : List ℕ) (parts : List MediaPart) (i n : ℕ) (p : MediaPart) → i < length parts → p ≡ get_or parts i p → number_in p ≡ n ∷ []
    → length seen ≡ 1024 → n < 2 ^ 16 → is_in_set seen n ≡ false
    → left_twice seen (numbers_in (drop i parts)) ≡ left_twice (with_mark seen n) (numbers_in (drop (i + 1) parts))
past_number seen parts i n p h is one room small none =
    ap (left_twice seen) (next_part parts i p h is ∙ ap (λ (front : List ℕ). front ++ numbers_in (drop (i + 1) parts)) one)
    ∙ mark_next seen n (numbers_in (drop (i + 1) parts)) room small none

pub ruleset past_parts = (past_other, past_number)
