use Rattle.std.proofs.Common.{◌≡◌, ◌==◌, drop}
use Rattle.std.specs.List.{list_any}
use Rattle.gw_desc.specs.Checks.{numbers_in}
use Rattle.gw_desc.proofs.checks.twice.has_number.Given as goal

-- it is among all if it is among those that are left
abbrev pub invariant-loop-part : goal.invariant-loop-part
invariant-loop-part l = list_any (λ other. l.number == other) (numbers_in l.parts) ≡ list_any (λ other. l.number == other) (numbers_in (drop l.part-index l.parts))
