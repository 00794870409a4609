-- The number that digits write, one digit more.
use Rattle.std.proofs.Common.{◌≡◌, ℕ, ◌+◌, ◌-◌, ◌*◌, ◌<◌, ◌≤◌, true, false, nat_le, List, [], ◌∷◌, length, get_or, take, arith}
use Rattle.std.specs.List.{list_all}
use Rattle.std.specs.Str.Parse.{digits_value}
use Rattle.std.specs.Char.{digit_value}
use Rattle.std.proofs.lemmas.Int.Digits.{digits_value_more}
use Rattle.std.proofs.lemmas.Str.Parse.{digits_value-take-le}
use Rattle.std.proofs.lemmas.Bool.{le-leb}
use Rattle.gw_base.specs.Bytes.{is_digit}
use Rattle.gw_base.specs.Mids.{port_max}
use Rattle.gw_base.proofs.Booleans.{both, each_at}

pub next_digit : (digits : List ℕ) (i number : ℕ) → number ≡ digits_value 10 (take i digits) → i < length digits → list_all is_digit digits ≡ true → number * 10 + (get_or digits i 0 - 48) ≡ digits_value 10 (take (i + 1) digits)
next_digit digits i number e h all = grind (arith, each_at, digits_value_more)

-- digits whose front writes a number above the highest port write one above it
pub large : (digits : List ℕ) (i number : ℕ) → number ≡ digits_value 10 (take i digits) → i < length digits → list_all is_digit digits ≡ true → port_max < number * 10 + (get_or digits i 0 - 48) → false ≡ nat_le (digits_value 10 digits) port_max
large digits i number e h all more = grind (arith, next_digit, digits_value-take-le)

digit_small : (b : ℕ) → is_digit b ≡ true → digit_value b ≤ 9
digit_small b is = grind arith

below : (digits : List ℕ) → length digits < 5 → list_all is_digit digits ≡ true → digits_value 10 digits ≤ port_max
below [] h all = omega arith
below (a ∷ []) h all = grind (arith, both, digit_small)
below (a ∷ b ∷ []) h all = grind (arith, both, digit_small)
below (a ∷ b ∷ c ∷ []) h all = grind (arith, both, digit_small)
below (a ∷ b ∷ c ∷ d ∷ []) h all = grind (arith, both, digit_small)
below (a ∷ b ∷ c ∷ d ∷ e ∷ more) h all = absurd (omega arith)

-- fewer than five digits write no number above the highest port
pub few_digits : (digits : List ℕ) → length digits < 5 → list_all is_digit digits ≡ true → nat_le (digits_value 10 digits) port_max ≡ true
few_digits digits h all = le-leb (digits_value 10 digits) port_max (below digits h all)
