use Rattle.std.proofs.Common.{◌≡◌, ◌≤◌, false, drop}
use Rattle.gw_text.specs.OctetsScan.{octets_from}
use Rattle.gw_text.proofs.octets.escaped_ends.Given as goal

abbrev pub invariant-loop-i : goal.invariant-loop-i
invariant-loop-i l = record {
  value : octets_from l.escaped l.i l.keep (drop l.i l.text) ≡ octets_from false 0 0 l.text;
  within : l.keep ≤ l.i;
}
