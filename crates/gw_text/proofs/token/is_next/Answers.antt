use Rattle.std.proofs.Common.{ℕ, List, arith, length, drop, get_or, length-drop, ap, ◌∙◌}
use Rattle.gw_text.specs.Lexical.{is_safe}
use Rattle.gw_text.proofs.TokenLemmas.{same_front, whole_rest, next_at_end, next_before}
use Rattle.gw_text.proofs.token.is_next.Goals as goal

pub returns-in-empty : goal.returns-in-empty
returns-in-empty c =
    let text = c.args.text.now in
    let form = c.args.form.now in
    next_at_end text form (drop (length form) text) (same_front text form c.loop-i.i (omega (arith, c.loop-i.auto.i-end, c.loop-i-test.false)) c.loop-i.invariant) c.requires (omega (arith, c.in-empty.len_below, length-drop (length form) text))

pub returns-in-len1-up : goal.returns-in-len1-up
returns-in-len1-up c =
    let text = c.args.text.now in
    let form = c.args.form.now in
    next_before text form (drop (length form) text) c.is_safe.result (same_front text form c.loop-i.i (omega (arith, c.loop-i.auto.i-end, c.loop-i-test.false)) c.loop-i.invariant) c.requires (omega (arith, c.in-len1-up.len_at_least, length-drop (length form) text)) (c.is_safe.ensures ∙ ap (λ (x : List ℕ). is_safe (get_or x 0 0)) (whole_rest text (length form)))
