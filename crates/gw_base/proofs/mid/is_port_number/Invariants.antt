use Rattle.std.proofs.Common.{◌≡◌, ◌≤◌, take}
use Rattle.std.specs.Str.Parse.{digits_value}
use Rattle.gw_base.specs.Mids.{port_max}
use Rattle.gw_base.proofs.mid.is_port_number.Given as goal

-- the number that the digits so far write, which is small
abbrev pub invariant-loop-b : goal.invariant-loop-b
invariant-loop-b l = record {
  value : l.number ≡ digits_value 10 (take l.b-index l.digits);
  small : l.number ≤ port_max;
}
