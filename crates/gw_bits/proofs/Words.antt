-- Bits of words.
use Rattle.std.proofs.Common.{◌≡◌, ◌≢◌, ℕ, ◌+◌, ◌-◌, ◌*◌, ◌/◌, ◌%◌, ◌^◌, ◌<◌, ◌≤◌, min, List, get_or, length, set, replicate, true, false, nat_eq, ⊎_elim, inl, inr, refl, subst, sym, ap, ◌∙◌, arith, w64}
use Rattle.std.proofs.Math.Nat.{div-le_self}
use Rattle.std.proofs.Math.Pow.{shr_lt}
use Rattle.std.proofs.lemmas.Bool.{cases_lt, cases_eq}
use Rattle.std.proofs.lemmas.List.{get_or-replicate, length-replicate, length-set, get_or-set_same, get_or-set_other, get_or_past}
use Rattle.std.proofs.lemmas.Nat.{shr-shr}
use Rattle.std.proofs.lemmas.Nat.Bits.{bit_at_not, bit_at-zero, bit_at-lt, bit_at_above, bit_at-trailing_zeros, bit_at_ones, bit_at_set_same, bit_at_set_other, bit_at_clear_same, bit_at_clear_other}
use Rattle.std.proofs.lemmas.Grind.{get_or_default_zero}
use Rattle.std.specs.Prelude.{bit_and, bit_or}
use Rattle.std.specs.Int.{div_ceil, bit_at, bit_not, trailing_zeros}
use Rattle.gw_bits.specs.BitSets.{has_bit, room}

-- the bits that are 0, from a place on
abbrev pub clear : ℕ → ℕ → ℕ
clear word start = bit_not w64 word / 2 ^ start

clear_fits : (word start : ℕ) → clear word start < 2 ^ 64
clear_fits word start = omega (arith, div-le_self (bit_not w64 word) (2 ^ start))

module _ (word start : ℕ) (fits : word < 2 ^ 64) where
  pub bit_of_clear : (i : ℕ) → start + i < 64 → bit_at (clear word start) i + bit_at word (start + i) ≡ 1
  bit_of_clear i h =
      let at : bit_at (clear word start) i ≡ bit_at (bit_not w64 word) (start + i) = ap (λ x. x % 2) (shr-shr (bit_not w64 word) start i) in
      omega (arith, at, bit_at_not w64 word (start + i) fits h, bit_at-lt word (start + i))

  pub none_clear : clear word start ≡ 0 → (i : ℕ) → start ≤ i → i < 64 → bit_at word i ≡ 1
  none_clear e i low high =
      let back : start + (i - start) ≡ i = omega arith in
      let here : bit_at (clear word start) (i - start) ≡ 0 = ap (λ x. bit_at x (i - start)) e ∙ bit_at-zero (i - start) in
      let there : bit_at word (start + (i - start)) ≡ bit_at word i = ap (λ x. bit_at word x) back in
      omega (arith, bit_of_clear (i - start) (omega arith), here, there)

  module _ (small : start < 64) (some : 0 < clear word start) where
    lowest : (trailing_zeros w64 (clear word start) < 64) × (bit_at (clear word start) (trailing_zeros w64 (clear word start)) ≡ 1) × ((i : ℕ) → i < trailing_zeros w64 (clear word start) → bit_at (clear word start) i ≡ 0)
    lowest = bit_at-trailing_zeros w64 (clear word start) some (clear_fits word start)

    -- it stands in the word
    pub lowest_within : start + trailing_zeros w64 (clear word start) < 64
    lowest_within = ⊎_elim (λ h. omega arith) (λ h. omega (arith, lowest.1, bit_at_above (clear word start) (64 - start) (trailing_zeros w64 (clear word start)) narrow h)) (cases_lt (trailing_zeros w64 (clear word start)) (64 - start))
      where
        whole : 64 - start + start ≡ 64
        whole = omega arith

        narrow : clear word start < 2 ^ (64 - start)
        narrow = shr_lt (64 - start) start (subst (λ (k : ℕ). bit_not w64 word < 2 ^ k) (sym whole) (omega arith))

    pub lowest_is_clear : bit_at word (start + trailing_zeros w64 (clear word start)) ≡ 0
    lowest_is_clear = omega (arith, bit_of_clear (trailing_zeros w64 (clear word start)) lowest_within, lowest.1)

    pub set_below_lowest : (i : ℕ) → start ≤ i → i < start + trailing_zeros w64 (clear word start) → bit_at word i ≡ 1
    set_below_lowest i low high =
        let back : start + (i - start) ≡ i = omega arith in
        let there : bit_at word (start + (i - start)) ≡ bit_at word i = ap (λ x. bit_at word x) back in
        omega (arith, lowest_within, bit_of_clear (i - start) (omega (arith, lowest_within)), lowest.2 (i - start) (omega arith), there)

-- ---- marks

pub marked_at : (words : List ℕ) (n : ℕ) → bit_at (get_or words (n / 64) 0) (n % 64) ≡ 1 → has_bit words n ≡ true
unfolding has_bit
marked_at words n e = ap (λ b. nat_eq b 1) e

pub unmarked_at : (words : List ℕ) (n : ℕ) → bit_at (get_or words (n / 64) 0) (n % 64) ≡ 0 → has_bit words n ≡ false
unfolding has_bit
unmarked_at words n e = ap (λ b. nat_eq b 1) e

-- the bit of a word, where a number stands in it
bit_in : (words : List ℕ) (n k i b : ℕ) → n / 64 ≡ k → n % 64 ≡ i → bit_at (get_or words k 0) i ≡ b → bit_at (get_or words (n / 64) 0) (n % 64) ≡ b
bit_in words n k i b e f h = ap (λ x. bit_at (get_or words x 0) (n % 64)) e ∙ ap (λ x. bit_at (get_or words k 0) x) f ∙ h

-- one word that changed
pub marks_stay : (words : List ℕ) (k w number : ℕ) → k < length words → k ≡ number / 64
    → ((i : ℕ) → i < 64 → i ≢ number % 64 → bit_at w i ≡ bit_at (get_or words k 0) i)
    → (n : ℕ) → n ≢ number → has_bit (set words k w) n ≡ has_bit words n
unfolding has_bit
marks_stay words k w number inside at same n other = ap (λ b. nat_eq b 1) (elim (cases_eq (n / 64) k) [
  | inl here ↦
      ap (λ x. bit_at (get_or (set words k w) x 0) (n % 64)) here ∙ ap (λ x. bit_at x (n % 64)) (get_or-set_same words k w 0 inside)
      ∙ same (n % 64) (omega arith) (λ e. other (omega arith)) ∙ ap (λ x. bit_at (get_or words x 0) (n % 64)) (sym here)
  | inr away ↦ ap (λ x. bit_at x (n % 64)) (get_or-set_other words k (n / 64) w 0 away)
])

-- the number whose bit has this value now
bit_now : (words : List ℕ) (k w number b : ℕ) → k < length words → k ≡ number / 64 → bit_at w (number % 64) ≡ b
    → bit_at (get_or (set words k w) (number / 64) 0) (number % 64) ≡ b
bit_now words k w number b inside at e =
    bit_in (set words k w) number k (number % 64) b (sym at) refl (ap (λ x. bit_at x (number % 64)) (get_or-set_same words k w 0 inside) ∙ e)

pub now_marked : (words : List ℕ) (k w number : ℕ) → k < length words → k ≡ number / 64 → bit_at w (number % 64) ≡ 1 → has_bit (set words k w) number ≡ true
now_marked words k w number inside at e = marked_at (set words k w) number (bit_now words k w number 1 inside at e)

pub now_unmarked : (words : List ℕ) (k w number : ℕ) → k < length words → k ≡ number / 64 → bit_at w (number % 64) ≡ 0 → has_bit (set words k w) number ≡ false
now_unmarked words k w number inside at e = unmarked_at (set words k w) number (bit_now words k w number 0 inside at e)

-- ---- a word with one bit more, or one less

module _ (words : List ℕ) (word number : ℕ) (inside : number / 64 < length words) (is : word ≡ get_or words (number / 64) word) where
  word_is : word ≡ get_or words (number / 64) 0
  word_is = is ∙ get_or_default_zero words (number / 64) word inside

  pub set_others : (n : ℕ) → n ≢ number → has_bit (set words (number / 64) (bit_or word (1 * 2 ^ (number % 64) % 2 ^ 64))) n ≡ has_bit words n
  set_others = marks_stay words (number / 64) (bit_or word (1 * 2 ^ (number % 64) % 2 ^ 64)) number inside refl
      (λ i small other. bit_at_set_other w64 word (number % 64) (omega arith) i other ∙ ap (λ x. bit_at x i) word_is)

  pub set_here : has_bit (set words (number / 64) (bit_or word (1 * 2 ^ (number % 64) % 2 ^ 64))) number ≡ true
  set_here = now_marked words (number / 64) (bit_or word (1 * 2 ^ (number % 64) % 2 ^ 64)) number inside refl (bit_at_set_same w64 word (number % 64) (omega arith))

  pub cleared_others : (n : ℕ) → n ≢ number → has_bit (set words (number / 64) (bit_and word (bit_not w64 (1 * 2 ^ (number % 64) % 2 ^ 64)))) n ≡ has_bit words n
  cleared_others = marks_stay words (number / 64) (bit_and word (bit_not w64 (1 * 2 ^ (number % 64) % 2 ^ 64))) number inside refl
      (λ i small other. bit_at_clear_other w64 word (number % 64) (omega arith) i small other ∙ ap (λ x. bit_at x i) word_is)

  pub cleared_here : has_bit (set words (number / 64) (bit_and word (bit_not w64 (1 * 2 ^ (number % 64) % 2 ^ 64)))) number ≡ false
  cleared_here = now_unmarked words (number / 64) (bit_and word (bit_not w64 (1 * 2 ^ (number % 64) % 2 ^ 64))) number inside refl (bit_at_clear_same w64 word (number % 64) (omega arith))

pub same_room : (words : List ℕ) (k w : ℕ) → room (set words k w) ≡ room words
unfolding room
same_room words k w = ap (λ n. 64 * n) (length-set words k w)

-- there is no room for it
pub without_room : (words : List ℕ) (n : ℕ) → length words ≤ n / 64 → has_bit words n ≡ false
without_room words n h = unmarked_at words n (ap (λ x. bit_at x (n % 64)) (get_or_past words (n / 64) 0 h) ∙ bit_at-zero (n % 64))

-- words of which each is 0
pub blank : (words : List ℕ) → ((k : ℕ) → get_or words k 0 ≡ 0) → (n : ℕ) → has_bit words n ≡ false
blank words each n = unmarked_at words n (ap (λ x. bit_at x (n % 64)) (each (n / 64)) ∙ bit_at-zero (n % 64))

zeros : (n k : ℕ) → get_or (replicate {A = ℕ} n 0) k 0 ≡ 0
zeros n k = ⊎_elim (λ h. get_or-replicate {A = ℕ} n k 0 0 h) (λ h. get_or_past (replicate {A = ℕ} n 0) k 0 (omega (arith, length-replicate {A = ℕ} n 0, h))) (cases_lt k n)

pub blank_zeros : (words : List ℕ) (n : ℕ) → words ≡ replicate {A = ℕ} n 0 → (k : ℕ) → has_bit words k ≡ false
blank_zeros words n e = blank words (λ k. ap (λ (l : List ℕ). get_or l k 0) e ∙ zeros n k)

pub has_room : (words : List ℕ) (limit : ℕ) → length words ≡ div_ceil limit 64 → limit ≤ room words
unfolding room
has_room words limit e = omega arith

pub small_index : (words : List ℕ) (number : ℕ) → number < room words → number / 64 < length words
unfolding room
small_index words number h = omega arith

pub large_index : (words : List ℕ) (number : ℕ) → room words ≤ number → length words ≤ number / 64
unfolding room
large_index words number h = omega arith

-- ---- the search

-- within the first word
module _ (words : List ℕ) (from bit word : ℕ) (is : word ≡ get_or words (from / 64) 0) (within : bit ≤ 64) where
  pub first_before : ((i : ℕ) → from % 64 ≤ i → i < bit → bit_at word i ≡ 1) → (n : ℕ) → from ≤ n → n < from - from % 64 + bit → has_bit words n ≡ true
  first_before before n low high =
      marked_at words n (bit_in words n (from / 64) (n % 64) 1 (omega arith) refl (ap (λ x. bit_at x (n % 64)) (sym is) ∙ before (n % 64) (omega arith) (omega arith)))

  pub first_found : from % 64 ≤ bit → bit < 64 → bit_at word bit ≡ 0 → has_bit words (from - from % 64 + bit) ≡ false
  first_found behind small e =
      unmarked_at words (from - from % 64 + bit) (bit_in words (from - from % 64 + bit) (from / 64) bit 0 (omega arith) (omega arith) (ap (λ x. bit_at x bit) (sym is) ∙ e))

-- in a word behind it
module _ (words : List ℕ) (from next bit first word : ℕ) (first_is : first ≡ get_or words (from / 64) 0) (is : word ≡ get_or words next 0) (behind : from / 64 + 1 ≤ next) (within : bit ≤ 64) where
  pub next_before : ((i : ℕ) → from % 64 ≤ i → i < 64 → bit_at first i ≡ 1)
      → ((k : ℕ) → from / 64 + 1 ≤ k → k < next → get_or words k 0 ≡ 2 ^ 64 - 1)
      → ((i : ℕ) → 0 ≤ i → i < bit → bit_at word i ≡ 1)
      → (n : ℕ) → from ≤ n → n < next * 64 + bit → has_bit words n ≡ true
  next_before before full last n low high =
      ⊎_elim (λ h. first_before words from 64 first first_is (omega arith) before n low (omega arith))
      (λ h. ⊎_elim (λ k. marked_at words n (ap (λ x. bit_at x (n % 64)) (full (n / 64) h k) ∙ bit_at_ones 64 (n % 64) (omega arith)))
      (λ k. marked_at words n (bit_in words n next (n % 64) 1 (omega arith) refl (ap (λ x. bit_at x (n % 64)) (sym is) ∙ last (n % 64) (omega arith) (omega arith))))
      (cases_lt (n / 64) next))
      (cases_lt (n / 64) (from / 64 + 1))

  pub next_found : (to end : ℕ) → end ≡ min (length words) (to / 64 + 1) → (next < end → get_or words next 0 ≢ 2 ^ 64 - 1) → (bit < 64 → bit_at word bit ≡ 0) → (bit ≡ 64 → word ≡ 2 ^ 64 - 1)
      → next * 64 + bit < to → has_bit words (next * 64 + bit) ≡ false
  next_found to end end_is unfilled at_clear full high =
      ⊎_elim (λ h. unmarked_at words (next * 64 + bit) (bit_in words (next * 64 + bit) next bit 0 (omega arith) (omega arith) (ap (λ x. bit_at x bit) (sym is) ∙ at_clear h)))
      (λ h. let all : get_or words next 0 ≡ 2 ^ 64 - 1 = sym is ∙ full (omega arith) in
      absurd (⊎_elim (λ k. unfilled k all) (λ k. ⊎_elim (λ l. omega (arith, end_is)) (λ l. omega (arith, get_or_past words next 0 l, all)) (cases_lt next (length words))) (cases_lt next end)))
      (cases_lt bit 64)
