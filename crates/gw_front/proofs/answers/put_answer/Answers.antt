use Rattle.std.proofs.Common.{codes, length, ◌++◌, subst, ℕ, List}
use Rattle.gw_front.specs.AnswerTexts.{header_text}
use Rattle.gw_front.specs.Outputs.{Moves, IsFront}
use Rattle.gw_front.proofs.Moving.{moves_on, front_on, front_before, on_err, ok_mapped, err_mapped}
use Rattle.gw_front.proofs.answers.put_answer.Goals as goal

pub returns-in_err-put_header-clause-front : goal.returns-in_err-put_header-clause-front
returns-in_err-put_header-clause-front g c =
    let out = g.W.Write.contents c.put_header.new.out in
    on_err c.from_residual.result
    (subst (λ (b : List ℕ). IsFront (g.W.Write.contents c.args.out.now) c.args.held.now.items out
    (header_text c.args.answer.now.peer (length b) ++ b ++ codes "\n")) c.as_slice-bytes.ensures
    (search (front_before, c.in_err-put_header.ensures.front)))

pub returns-in_err-put-clause-front : goal.returns-in_err-put-clause-front
returns-in_err-put-clause-front g c =
    let out = g.W.Write.contents c.put.new.out in
    on_err c.from_residual-in_err-put.result
    (subst (λ (b : List ℕ). IsFront (g.W.Write.contents c.args.out.now) c.args.held.now.items out
    (header_text c.args.answer.now.peer (length b) ++ b ++ codes "\n")) c.as_slice-bytes.ensures
    (search (front_before, front_on _ _ c.in_ok-put_header.ensures.whole c.in_err-put.ensures.front)))

pub returns-clause-whole : goal.returns-clause-whole
returns-clause-whole g c =
    let out = g.W.Write.contents c.put-2.new.out in
    ok_mapped c.put-2.result
    (λ last. subst (λ (b : List ℕ). Moves (g.W.Write.contents c.args.out.now) c.args.held.now.items out
    c.put-2.new.held.items (header_text c.args.answer.now.peer (length b) ++ b ++ codes "\n")) c.as_slice-bytes.ensures
    (moves_on (moves_on c.in_ok-put_header.ensures.whole c.in_ok-put.ensures.whole) last))
    c.put-2.ensures.whole

pub returns-clause-front : goal.returns-clause-front
returns-clause-front g c =
    let out = g.W.Write.contents c.put-2.new.out in
    err_mapped c.put-2.result
    (λ last. subst (λ (b : List ℕ). IsFront (g.W.Write.contents c.args.out.now) c.args.held.now.items out
    (header_text c.args.answer.now.peer (length b) ++ b ++ codes "\n")) c.as_slice-bytes.ensures
    (front_on _ _ (moves_on c.in_ok-put_header.ensures.whole c.in_ok-put.ensures.whole) last))
    c.put-2.ensures.front
