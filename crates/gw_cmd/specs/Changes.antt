-- What a change of a termination makes of the maps (RFC 3525, section 6.1).
use Rattle.std.specs.Prelude.{ℕ, List, Some}
use Rattle.gw_table.specs.Maps.{Maps, put_term}
use Rattle.gw_table.specs.Members.{with_member, without_member}
use Rattle.gw_cmd.specs.declared.change.Change.{Change}
use Rattle.gw_cmd.specs.declared.change.Change.TheVariants.{Stays, Becomes, Joins, Crosses, Leaves}

-- the maps after a change: the record is what it becomes, and the contexts have the name where the record says
abbrev pub changed : List ℕ → Change → Maps → Maps
changed t Stays m = m
changed t (Becomes r) m = put_term m t (Some r)
changed t (Joins n r) m = with_member n t (put_term m t (Some r))
changed t (Crosses p n r) m = with_member n t (without_member p t (put_term m t (Some r)))
changed t (Leaves n o) m = without_member n t (put_term m t o)
