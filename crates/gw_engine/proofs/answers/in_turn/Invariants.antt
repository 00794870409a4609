use Rattle.std.proofs.Common.{◌≡◌, map, take}
use Rattle.gw_engine.specs.Phases.{answers_of}
use Rattle.gw_engine.proofs.answers.in_turn.Given as goal

-- the answers so far
abbrev pub invariant-loop-item : goal.invariant-loop-item
invariant-loop-item l = l.answers ≡ answers_of l.mid l.kept (map (λ r. r.now) l.replies) (take l.item-index l.items)
