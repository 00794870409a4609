use Rattle.std.proofs.Common.{◌≡◌, ◌≤◌, ◌+◌, ◌-◌, false, length, drop}
use Rattle.gw_text.specs.Lexical.{is_blank}
use Rattle.gw_text.specs.Runs.{begins}
use Rattle.gw_text.specs.SpaceScan.{space_len}
use Rattle.gw_text.proofs.space.some_space_len.Given as goal

abbrev pub invariant-loop-comment : goal.invariant-loop-comment
invariant-loop-comment l = record {
  value : l.len + space_len (drop l.len l.text) ≡ space_len l.text;
  solid : begins is_blank (drop l.len l.text) ≡ false;
  within : l.len ≤ length l.text;
}

abbrev pub decreases-loop-comment : goal.decreases-loop-comment
decreases-loop-comment l = length l.text - l.len
