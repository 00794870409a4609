use Rattle.std.proofs.Common.{◌≡◌, ◌==◌, false, take}
use Rattle.std.specs.List.{list_any}
use Rattle.gw_config.proofs.lines.cut.Given as goal

-- no LF is among those passed
abbrev pub invariant-loop-i : goal.invariant-loop-i
invariant-loop-i l = list_any (λ c. c == 10) (take l.i l.text) ≡ false
