use Rattle.std.proofs.Common.{[], take}
use Rattle.gw_front.specs.Answering.{bare_text}
use Rattle.gw_front.specs.Outputs.{Moves}
use Rattle.gw_front.proofs.answering.write_bare.Given as goal

-- the answers so far were put
abbrev pub invariant-loop-answer : goal.invariant-loop-answer
invariant-loop-answer g l = Moves (g.W.Write.contents l.initial.out) [] (g.W.Write.contents l.out) l.held.items (bare_text (take l.answer-index l.answers))
