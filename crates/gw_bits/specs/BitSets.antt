-- Sets of numbers (own): a bit for each, in words of 64.
use Rattle.std.specs.Prelude.{◌≡◌, ℕ, ◌/◌, ◌%◌, ◌*◌, Bool, false, List, length, slice_index, nat_eq}
use Rattle.std.specs.Int.{bit_at}

-- the bit of the number is set
unfoldable pub has_bit : List ℕ → ℕ → Bool
has_bit words n = nat_eq (bit_at (slice_index words (n / 64)) (n % 64)) 1

-- there is room for the numbers below this one
unfoldable pub room : List ℕ → ℕ
room words = 64 * length words

-- no bit is set
abbrev pub IsBlank : List ℕ → Type 0
IsBlank words = (n : ℕ) → has_bit words n ≡ false
