-- Terminations of the null context, as they stand in places (own).
use Rattle.std.specs.Prelude.{Bool, false}
use Rattle.std.specs.Option.{is_none}
use Rattle.gw_term.specs.declared.record.Termination.{Termination}
use Rattle.gw_table.specs.declared.place.Place.{Place}
use Rattle.gw_table.specs.declared.place.Place.TheVariants.{Empty, Here, Out}

-- a termination of the null context stands there
abbrev pub is_free_at : Place Termination → Bool
is_free_at Empty = false
is_free_at (Here r) = is_none r.place
is_free_at Out = false
