-- When keys meet (own).
use Rattle.std.specs.Prelude.{Bool, ◌||◌, List}
use Rattle.std.specs.List.{list_any}
use Rattle.gw_base.specs.declared.key.Key.{Key}
use Rattle.gw_base.specs.declared.key.Key.TheVariants.{Whole}
use Rattle.gw_base.specs.Keys.{has}

-- a key is in both, or the whole of the tables in one of them
abbrev pub meets : List Key → List Key → Bool
meets a b = has a Whole || has b Whole || list_any (has a) b
