use Rattle.std.proofs.Common.{codes, []}
use Rattle.gw_front.specs.AnswerTexts.{answer_text}
use Rattle.gw_front.proofs.Moving.{moves_on, front_on, front_before, on_err, err_mapped}
use Rattle.gw_front.proofs.AnswerPieces.{text_of, put_more, stopped_at, all_put, front_finished}
use Rattle.gw_front.proofs.answers.write_answers.Goals as goal

pub returns-in_err-put_answer-clause-front : goal.returns-in_err-put_answer-clause-front
returns-in_err-put_answer-clause-front g c =
    let out = g.W.Write.contents c.put_answer.new.out in
    on_err c.from_residual.result
    (front_before (g.W.Write.contents c.args.out.now) out [] (text_of answer_text c.args.answers.now) (codes ".\n")
    (stopped_at answer_text out c.args.answers.now c.loop-answer.answer-index c.loop-answer-test.true c.answer-item.is
    c.loop-answer.invariant c.in_err-put_answer.ensures.front))

pub loop-answer-preserved : goal.loop-answer-preserved
loop-answer-preserved g c =
    put_more answer_text c.args.answers.now c.loop-answer.answer-index c.loop-answer-test.true c.answer-item.is
    c.loop-answer.invariant c.in_ok-put_answer.ensures.whole

pub returns-in_err-put-clause-front : goal.returns-in_err-put-clause-front
returns-in_err-put-clause-front g c =
    on_err c.from_residual-in_err-put.result
    (front_on (g.W.Write.contents c.put.new.out) (codes ".\n")
    (all_put answer_text c.args.answers.now c.loop-answer.answer-index c.loop-answer-test.false c.loop-answer.invariant)
    c.in_err-put.ensures.front)

pub returns-clause-front : goal.returns-clause-front
returns-clause-front g c =
    let all = all_put answer_text c.args.answers.now c.loop-answer.answer-index c.loop-answer-test.false c.loop-answer.invariant in
    err_mapped c.finish.result
    (front_finished (g.W.Write.contents c.finish.new.out) (moves_on all c.in_ok-put.ensures.whole))
    c.finish.ensures.front
