use Rattle.std.proofs.Common.{◌≡◌, ◌++◌, ◌-◌, length, map, drop}
use Rattle.gw_engine.specs.Replies.{board_texts}
use Rattle.gw_engine.proofs.answers.replies_of.Given as goal

-- with those that are left, they are all
abbrev pub invariant-loop-reply : goal.invariant-loop-reply
invariant-loop-reply l = map (λ r. r.now) l.replies.items ++ drop (length l.replies.items) (board_texts l.board) ≡ board_texts l.board

-- each step leaves one fewer
abbrev pub decreases-loop-reply : goal.decreases-loop-reply
decreases-loop-reply l = length (board_texts l.board) - length l.replies.items
