use Rattle.std.proofs.Common.{◌≡◌, ◌==◌, false, take}
use Rattle.std.specs.List.{list_any}
use Rattle.gw_base.proofs.mid.split_at_first.Given as goal

-- the byte is not among those passed
abbrev pub invariant-loop-i : goal.invariant-loop-i
invariant-loop-i l = list_any (λ c. c == l.b) (take l.i l.text) ≡ false
