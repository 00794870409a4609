use Rattle.std.proofs.Common.{◌≡◌, ◌==◌, false, take}
use Rattle.std.specs.List.{list_any}
use Rattle.gw_front.proofs.header.cut.Given as goal

-- no space is among those passed
abbrev pub invariant-loop-i : goal.invariant-loop-i
invariant-loop-i l = list_any (λ c. c == 32) (take l.i l.text) ≡ false
