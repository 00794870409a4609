use Rattle.std.proofs.Common.{◌≡◌, ◌+◌, Some, drop, ◌∙◌, ap, sym, arith, rules}
use Rattle.std.proofs.lemmas.List.{take_rest}
use Rattle.gw_text.specs.Lexical.{is_blank}
use Rattle.gw_text.specs.Runs.{run_len}
use Rattle.gw_text.specs.SpaceScan.{comment_len}
use Rattle.gw_text.proofs.SpaceParts.{blanks_passed, part_passed, none_left}
use Rattle.gw_text.proofs.space.some_space_len.Goals as goal

pub loop-comment-init : goal.loop-comment-init
loop-comment-init c =
    let passed = blanks_passed c.blanks_len-len.result c.args.text.now c.blanks_len-len.ensures.value in
    record { value = passed.0; solid = passed.1; within = c.blanks_len-len.ensures.within }

pub loop-comment-preserved : goal.loop-comment-preserved
loop-comment-preserved c =
    let text = c.args.text.now in
    let len = c.loop-comment.len in
    let comment = c.in-Some.comment in
    let is : comment_len (drop len text) ≡ Some comment = ap comment_len (sym (take_rest text len)) ∙ sym c.in-Some.ensures.value in
    let blanks = c.blanks_len-len-in-Some.ensures.value ∙ ap (run_len is_blank) (take_rest text (len + comment)) in
    let passed = part_passed len comment c.blanks_len-len-in-Some.result text c.loop-comment.invariant.value is blanks in
    record { value = passed.0; solid = passed.1; within = search rules }

pub returns-clause-value : goal.returns-clause-value
returns-clause-value c = grind (arith, take_rest, none_left)
