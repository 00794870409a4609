use Rattle.std.proofs.Common.{List, subst, ℕ}
use Rattle.gw_engine.specs.declared.datagram.Datagram.{Datagram}
use Rattle.gw_front.specs.Outputs.{IsFront}
use Rattle.gw_front.proofs.Moving.{on_err, err_mapped}
use Rattle.gw_front.proofs.AnswerPieces.{put_more, stopped_at, all_put, front_finished}
use Rattle.gw_front.proofs.answering.write_bare.Goals as goal

abbrev bytes : Datagram → List ℕ
bytes d = d.bytes

pub returns-in_err-put-clause-front : goal.returns-in_err-put-clause-front
returns-in_err-put-clause-front g c =
    let out = g.W.Write.contents c.put.new.out in
    on_err c.from_residual.result
    (stopped_at bytes out c.args.answers.now c.loop-answer.answer-index c.loop-answer-test.true c.answer-item.is
    c.loop-answer.invariant
    (subst (IsFront (g.W.Write.contents c.loop-answer.out) c.loop-answer.held.items out) c.as_slice.ensures
    c.in_err-put.ensures.front))

pub loop-answer-preserved : goal.loop-answer-preserved
loop-answer-preserved g c =
    put_more bytes c.args.answers.now c.loop-answer.answer-index c.loop-answer-test.true c.answer-item.is
    c.loop-answer.invariant (rw c.as_slice.ensures at c.in_ok-put.ensures.whole)

pub returns-clause-front : goal.returns-clause-front
returns-clause-front g c =
    let all = all_put bytes c.args.answers.now c.loop-answer.answer-index c.loop-answer-test.false c.loop-answer.invariant in
    err_mapped c.finish.result (front_finished (g.W.Write.contents c.finish.new.out) all)
    c.finish.ensures.front
