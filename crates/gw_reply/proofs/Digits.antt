-- Short numbers in decimal, digit by digit.
use Rattle.std.proofs.Common.{◌≡◌, ℕ, ◌+◌, ◌/◌, ◌%◌, ◌^◌, ◌<◌, ◌≤◌, List, [], ◌∷◌, ◌++◌, decimal, ap, ◌∙◌, arith}
use Rattle.std.proofs.lemmas.Fmt.{decimal_digit, decimal_step}

-- the last digit
abbrev last : ℕ → ℕ
last n = 48 + n % 10

-- one more behind those
one_more : (n : ℕ) (front : List ℕ) → 10 ≤ n → n < 2 ^ 64 → decimal (n / 10) ≡ front → decimal n ≡ front ++ last n ∷ []
one_more n front le small e = decimal_step n le small ∙ ap (λ (ds : List ℕ). ds ++ last n ∷ []) e

pub one_digit : (n : ℕ) → n < 10 → decimal n ≡ last n ∷ []
one_digit n h = let e : 48 + n ≡ last n = omega arith in decimal_digit n h ∙ ap (λ d. d ∷ []) e

pub two_digits : (n : ℕ) → 10 ≤ n → n < 100 → decimal n ≡ last (n / 10) ∷ last n ∷ []
two_digits n le h = one_more n (last (n / 10) ∷ []) le (omega arith) (one_digit (n / 10) (omega arith))

pub three_digits : (n : ℕ) → 100 ≤ n → n < 1000 → decimal n ≡ last (n / 100) ∷ last (n / 10) ∷ last n ∷ []
three_digits n le h =
    let e : n / 10 / 10 ≡ n / 100 = omega arith in
    one_more n (last (n / 100) ∷ last (n / 10) ∷ []) (omega arith) (omega arith) (two_digits (n / 10) (omega arith) (omega arith) ∙ ap (λ m. last m ∷ last (n / 10) ∷ []) e)

pub four_digits : (n : ℕ) → 1000 ≤ n → n < 10000 → decimal n ≡ last (n / 1000) ∷ last (n / 100) ∷ last (n / 10) ∷ last n ∷ []
four_digits n le h =
    let e : n / 10 / 10 ≡ n / 100 = omega arith in
    let f : n / 10 / 100 ≡ n / 1000 = omega arith in
    one_more n (last (n / 1000) ∷ last (n / 100) ∷ last (n / 10) ∷ []) (omega arith) (omega arith)
    (three_digits (n / 10) (omega arith) (omega arith) ∙ ap (λ m. last m ∷ last (n / 10 / 10) ∷ last (n / 10) ∷ []) f ∙ ap (λ m. last (n / 1000) ∷ last m ∷ last (n / 10) ∷ []) e)

pub five_digits : (n : ℕ) → 10000 ≤ n → n < 100000 → decimal n ≡ last (n / 10000) ∷ last (n / 1000) ∷ last (n / 100) ∷ last (n / 10) ∷ last n ∷ []
five_digits n le h =
    let e : n / 10 / 10 ≡ n / 100 = omega arith in
    let f : n / 10 / 100 ≡ n / 1000 = omega arith in
    let g : n / 10 / 1000 ≡ n / 10000 = omega arith in
    one_more n (last (n / 10000) ∷ last (n / 1000) ∷ last (n / 100) ∷ last (n / 10) ∷ []) (omega arith) (omega arith)
    (four_digits (n / 10) (omega arith) (omega arith)
    ∙ ap (λ m. last m ∷ last (n / 10 / 100) ∷ last (n / 10 / 10) ∷ last (n / 10) ∷ []) g
    ∙ ap (λ m. last (n / 10000) ∷ last m ∷ last (n / 10 / 10) ∷ last (n / 10) ∷ []) f
    ∙ ap (λ m. last (n / 10000) ∷ last (n / 1000) ∷ last m ∷ last (n / 10) ∷ []) e)
