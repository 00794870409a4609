use Rattle.gw_table.specs.Provided.{AreAmong}
use Rattle.gw_table.specs.Stored.{maps_of, AreSwept, NoneIsOut}
use Rattle.gw_table.proofs.tables.Tables.provide_most.Given as goal

-- what is there so far, nothing is out, and each prepared key has an entry
abbrev pub invariant-loop-i : goal.invariant-loop-i
invariant-loop-i l = record {
  among : AreAmong l.names (maps_of l.self);
  out : NoneIsOut l.self;
  swept : AreSwept l.self;
}
