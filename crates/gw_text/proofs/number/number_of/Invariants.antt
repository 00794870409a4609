use Rattle.std.proofs.Common.{◌≡◌, ◌≤◌, true, drop}
use Rattle.std.specs.List.{list_all}
use Rattle.std.specs.Str.Parse.{digits_value_after, digits_value}
use Rattle.gw_base.specs.Bytes.{is_digit}
use Rattle.gw_text.specs.Scans.{uint32_max}
use Rattle.gw_text.proofs.number.number_of.Given as goal

abbrev pub invariant-loop-b : goal.invariant-loop-b
invariant-loop-b l = record {
  small : l.number ≤ uint32_max;
  value : digits_value_after 10 l.number (drop l.b-index l.digits) ≡ digits_value 10 l.digits;
  digits : list_all is_digit (drop l.b-index l.digits) ≡ true;
}
