use Rattle.std.proofs.Common.{◌≡◌, ◌+◌, All, IfOk, vec_len}
use Rattle.gw_draw.specs.Answers.{view_of, IsRun, IsJoined}
use Rattle.gw_draw.proofs.map.gather.Given as goal

abbrev pub invariant-loop-next : goal.invariant-loop-next
invariant-loop-next g l = record {
  joined : IsJoined g.F.Fn l._f l.table l.jobs l.workers l.seat l.places.items;
  count : (view_of l.seat).allowance + vec_len l.runs ≡ l.workers;
  each : All (λ run. IfOk run (IsRun g.F.Fn l._f l.table l.jobs l.workers)) l.runs.items;
}

abbrev pub decreases-loop-next : goal.decreases-loop-next
decreases-loop-next g l = vec_len l.runs
