-- Numbers around a circle, and the places that they name.
use Rattle.std.proofs.Common.{◌≡◌, ℕ, ◌+◌, ◌-◌, ◌<◌, ◌%◌, ◌^◌, arith}
use Rattle.gw_kept.specs.Order.{number_at, place_of}

pub place_back : (first place : ℕ) → first < 2 ^ 16 → place < 2 ^ 16 → place_of first (number_at first place) ≡ place
place_back first place h l = omega arith

-- the next first, and the place before
pub number_next : (first next place : ℕ) → first < 2 ^ 16 → 0 < place → next ≡ (first + 1) % 2 ^ 16 → number_at first place ≡ number_at next (place - 1)
number_next first next place h l e = omega arith

pub next_around : (first : ℕ) → (first + 1) % 2 ^ 16 < 2 ^ 16
next_around first = omega arith
