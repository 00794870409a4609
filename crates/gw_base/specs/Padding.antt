-- How a short text lies in an array of n cells: at its front, with zeros behind it (own).
use Rattle.std.specs.Prelude.{◌≡◌, ℕ, ◌-◌, List, ◌++◌, length, take, replicate}

-- the first len cells are the text, and each cell behind them is zero
pub record IsPadded (n len : ℕ) (cells : List ℕ) : Type 0 where
  pub whole : length (take len cells) ≡ len
  pub zeros : cells ≡ take len cells ++ replicate (n - len) 0
