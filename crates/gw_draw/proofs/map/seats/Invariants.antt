use Rattle.std.proofs.Common.{◌≡◌, ◌+◌, [], All, vec_len}
use Rattle.gw_draw.specs.Draws.{view}
use Rattle.gw_draw.specs.Answers.{IsSeatOf, view_of, IsFresh}
use Rattle.gw_draw.proofs.map.seats.Given as goal

abbrev pub invariant-loop-seat : goal.invariant-loop-seat
invariant-loop-seat l = record {
  table : IsSeatOf l.table l.first;
  knows : view_of l.first ≡ view [] (view_of l.first).allowance (view_of l.fn.first).jobs l.workers;
  count : vec_len l.seats + (view_of l.first).allowance ≡ l.workers;
  turn : vec_len l.seats + 1 ≡ l._seat;
  fresh : All (IsFresh l.table (view_of l.fn.first).jobs l.workers) l.seats.items;
}
