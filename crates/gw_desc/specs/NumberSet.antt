-- Sets of numbers of 16 bits: a bit for each, in words of 64 bits (own).
use Rattle.std.specs.Prelude.{ℕ, ◌/◌, ◌%◌, ◌^◌, ◌==◌, Bool, not, List, slice_index_or, slice_set, bit_and, bit_or}

-- the number has its bit
unfoldable pub is_in_set : List ℕ → ℕ → Bool
is_in_set seen number = not (bit_and (slice_index_or seen (number / 64) 0) (2 ^ (number % 64)) == 0)

-- the words once it has
unfoldable pub with_mark : List ℕ → ℕ → List ℕ
with_mark seen number = slice_set seen (number / 64) (bit_or (slice_index_or seen (number / 64) 0) (2 ^ (number % 64)))
