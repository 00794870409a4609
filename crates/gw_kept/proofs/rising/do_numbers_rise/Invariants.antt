use Rattle.std.proofs.Common.{◌≡◌, None, drop}
use Rattle.gw_kept.specs.Rises.{do_numbers_rise}
use Rattle.gw_kept.proofs.rising.do_numbers_rise.Given as goal

-- the rest decides
abbrev pub invariant-loop-point : goal.invariant-loop-point
invariant-loop-point l = do_numbers_rise l.last (drop l.point-index l.points) ≡ do_numbers_rise None l.points
