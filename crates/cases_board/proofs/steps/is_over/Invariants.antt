use Rattle.std.proofs.Common.{◌≡◌, ℕ, ◌<◌, true, is_some}
use Rattle.std.specs.Prelude.{slice_get}
use Rattle.gw_board.specs.Boards.{reply_at}
use Rattle.cases_board.proofs.steps.is_over.Given as goal

-- a reply stands at each place so far
abbrev pub invariant-loop-place : goal.invariant-loop-place
invariant-loop-place l = (k : ℕ) → k < l.place → is_some (reply_at (slice_get l.board.places k)) ≡ true
