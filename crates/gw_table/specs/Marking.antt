-- Bits of entries (own): where the bit is set there is an entry; where it is not there may be one too.
use Rattle.std.specs.Prelude.{◌≡◌, ◌≢◌, ℕ, ◌<◌, Bool, true, List, is_some}
use Rattle.gw_bits.specs.BitSets.{has_bit}
use Rattle.gw_table.specs.Maps.{Maps, term, ctx, number}
use Rattle.gw_table.specs.Reserved.{slot_name}

-- there is a context with each number whose bit is set, and a termination of each such slot
pub record AreSet (numbers slots : List ℕ) (m : Maps) : Type 0 where
  pub contexts : (n : ℕ) → has_bit numbers n ≡ true → is_some (ctx m (number n)) ≡ true
  pub terms : (s : ℕ) → s < 4096 → has_bit slots s ≡ true → is_some (term m (slot_name s)) ≡ true

-- The bit of a number was set or cleared: it is set only where its context stands, and other bits are as they were.
pub record IsNumberSet (n : ℕ) (stands : Bool) (old new : List ℕ) : Type 0 where
  pub others : (k : ℕ) → k ≢ n → has_bit new k ≡ has_bit old k
  pub own : has_bit new n ≡ true → stands ≡ true

-- The bit of a termination was set or cleared: it is set only where it stands, and other bits are as they were.
pub record IsSlotSet (t : List ℕ) (stands : Bool) (old new : List ℕ) : Type 0 where
  pub others : (s : ℕ) → s < 4096 → slot_name s ≢ t → has_bit new s ≡ has_bit old s
  pub own : (s : ℕ) → s < 4096 → slot_name s ≡ t → has_bit new s ≡ true → stands ≡ true
