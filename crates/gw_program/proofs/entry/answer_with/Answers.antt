use Rattle.std.proofs.Common.{Ok, Err, refl}
use Rattle.std.proofs.lemmas.Result.{err_from_is_err_and}
use Rattle.gw_program.proofs.entry.answer_with.Goals as goal

pub returns-in_err-answer : goal.returns-in_err-answer
returns-in_err-answer g c =
    let p = err_from_is_err_and c.from_residual.result c.from_residual.ensures.1 in
    rw (p.1, p.2) (record { answered = Err c.in_err-answer.field-0.0; new = c.answer.new.gateway; done = c.in_err-answer.ensures; becomes = refl })

pub returns : goal.returns
returns g c = record { answered = Ok tt; new = c.answer.new.gateway; done = c.in_ok-answer.ensures; becomes = refl }
