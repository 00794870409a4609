use Rattle.std.proofs.Common.{[], flat_map, take}
use Rattle.gw_front.specs.AnswerTexts.{answer_text}
use Rattle.gw_front.specs.Outputs.{Moves}
use Rattle.gw_front.proofs.answers.write_answers.Given as goal

-- the answers so far were put
abbrev pub invariant-loop-answer : goal.invariant-loop-answer
invariant-loop-answer g l = Moves (g.W.Write.contents l.initial.out) [] (g.W.Write.contents l.out) l.held.items (flat_map answer_text (take l.answer-index l.answers))
