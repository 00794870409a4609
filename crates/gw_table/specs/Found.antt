-- What a write found at its key (own): what stood there, and whether it is logged already.
use Rattle.std.specs.Prelude.{◌≡◌, true, List, Option}
use Rattle.gw_base.specs.declared.key.Key.{Key}
use Rattle.gw_base.specs.Keys.{has}
use Rattle.gw_table.specs.declared.row.Found.{Found}
use Rattle.gw_table.specs.declared.row.Found.TheVariants.{Logged, Unlogged}

-- it is what stood there, and the key is among those that are logged, or is to be
abbrev pub IsFound : {A : Type 0} → List Key → Key → Option A → Found A → Type 0
IsFound keys key was (Logged entry) = (has keys key ≡ true) × (entry ≡ was)
IsFound keys key was (Unlogged entry) = entry ≡ was
