use Rattle.gw_front.proofs.Moving.{moves_on, front_on, front_before, on_err, ok_mapped, err_mapped}
use Rattle.gw_front.proofs.answers.put_header.Goals as goal

pub returns-in_err-put-clause-front : goal.returns-in_err-put-clause-front
returns-in_err-put-clause-front g c =
    on_err c.from_residual.result
    (search (front_before, c.in_err-put.ensures.front))

pub returns-in_err-put_number-clause-front : goal.returns-in_err-put_number-clause-front
returns-in_err-put_number-clause-front g c =
    on_err c.from_residual-in_err-put_number.result
    (search (front_before, front_on _ _ c.in_ok-put.ensures.whole c.in_err-put_number.ensures.front))

pub returns-in_err-put-2-clause-front : goal.returns-in_err-put-2-clause-front
returns-in_err-put-2-clause-front g c =
    on_err c.from_residual-in_err-put-2.result
    (search (
      front_before,
      front_on _ _ (moves_on c.in_ok-put.ensures.whole c.in_ok-put_number.ensures.whole) c.in_err-put-2.ensures.front,
    ))

pub returns-in_err-put_number-2-clause-front : goal.returns-in_err-put_number-2-clause-front
returns-in_err-put_number-2-clause-front g c =
    let first = moves_on c.in_ok-put.ensures.whole c.in_ok-put_number.ensures.whole in
    on_err c.from_residual-in_err-put_number-2.result
    (search (front_before, front_on _ _ (moves_on first c.in_ok-put-2.ensures.whole) c.in_err-put_number-2.ensures.front))

pub returns-clause-whole : goal.returns-clause-whole
returns-clause-whole g c =
    let first = moves_on c.in_ok-put.ensures.whole c.in_ok-put_number.ensures.whole in
    let both = moves_on (moves_on first c.in_ok-put-2.ensures.whole) c.in_ok-put_number-2.ensures.whole in
    ok_mapped c.put-3.result (λ last. moves_on both last) c.put-3.ensures.whole

pub returns-clause-front : goal.returns-clause-front
returns-clause-front g c =
    let first = moves_on c.in_ok-put.ensures.whole c.in_ok-put_number.ensures.whole in
    let both = moves_on (moves_on first c.in_ok-put-2.ensures.whole) c.in_ok-put_number-2.ensures.whole in
    err_mapped c.put-3.result (λ last. front_on _ _ both last) c.put-3.ensures.front
