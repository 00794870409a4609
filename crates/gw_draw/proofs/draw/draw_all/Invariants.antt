use Rattle.std.proofs.Common.{◌≡◌, ℕ, ◌-◌, ◌<◌, ◌++◌, All, length, slice_index_or}
use Rattle.gw_draw.specs.Draws.{view, top}
use Rattle.gw_draw.specs.Answers.{IsSeatOf, view_of, numbers, GivesAt}
use Rattle.gw_draw.proofs.draw.draw_all.Given as goal

abbrev pub invariant-draw : goal.invariant-draw
invariant-draw g l = record {
  table : IsSeatOf l.table l.seat;
  drawn : view_of l.seat ≡ view ((view_of l.fn.seat).drawn ++ numbers l.answers.items) (view_of l.fn.seat).allowance (view_of l.fn.seat).jobs (view_of l.fn.seat).workers;
  jobs_alone : All (λ x. x < length l.jobs) (view_of l.seat).drawn;
  each : (k : ℕ) (a : _) → k < length l.answers.items → GivesAt g.F.Fn l.f l.jobs (slice_index_or l.answers.items k a).0 (slice_index_or l.answers.items k a).1;
}

abbrev pub decreases-draw : goal.decreases-draw
decreases-draw g l = length l.jobs - top (view_of l.seat).drawn
