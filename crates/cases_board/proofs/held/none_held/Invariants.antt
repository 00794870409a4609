use Rattle.std.proofs.Common.{◌≡◌, true, is_none, length}
use Rattle.std.specs.List.{list_all}
use Rattle.cases_board.proofs.held.none_held.Given as goal

abbrev pub invariant-loop-place : goal.invariant-loop-place
invariant-loop-place l = record {
  none : list_all is_none l.held.items ≡ true;
  count : length l.held.items ≡ l._place;
}
