-- The part that has some keys (own).
use Rattle.std.specs.Prelude.{List}
use Rattle.gw_base.specs.declared.key.Key.{Key}
use Rattle.gw_table.specs.Maps.{Maps}
use Rattle.gw_table.specs.Parts.{Parted, Only, restricted}

-- these keys, and their entries
abbrev pub part_of : List Key → Maps → Parted
part_of keys m = record { keys = Only keys; maps = restricted keys m }
