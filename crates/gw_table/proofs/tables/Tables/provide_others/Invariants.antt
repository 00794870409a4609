use Rattle.std.proofs.Common.{take}
use Rattle.gw_table.specs.Provided.{AreAmong}
use Rattle.gw_table.specs.Stored.{maps_of, AreSwept, NoneIsOut}
use Rattle.gw_table.proofs.Provisioning.{AreThere}
use Rattle.gw_table.proofs.tables.Tables.provide_others.Given as goal

-- the names so far are there, nothing is out, and each prepared key has an entry
abbrev pub invariant-loop-name : goal.invariant-loop-name
invariant-loop-name l = record {
  among : AreAmong l.names (maps_of l.self);
  there : AreThere (take l.name-index l.names) (maps_of l.self);
  out : NoneIsOut l.self;
  swept : AreSwept l.self;
}
