use Rattle.std.proofs.Common.{◌≡◌, drop}
use Rattle.gw_desc.specs.Checks.{numbers_in}
use Rattle.gw_desc.specs.Twice.{has_number_twice}
use Rattle.gw_desc.proofs.checks.twice.is_number_twice_by_pairs.Given as goal

-- two of all have one number if two of those that are left have
abbrev pub invariant-loop-i : goal.invariant-loop-i
invariant-loop-i l = has_number_twice (numbers_in l.parts) ≡ has_number_twice (numbers_in (drop l.i l.parts))
