-- In which part of the line the field is.
use Rattle.std.proofs.Common.{◌≡◌, ◌-◌, suc, arith}
use Rattle.gw_desc.proofs.FillRuns.{only_choice, first_choice, later_choice}
use Rattle.gw_desc.proofs.fill.+choice_in.Goals as goal

pub returns-then-is_choice : goal.returns-then-is_choice
returns-then-is_choice t c = only_choice c.args.place c.args.line.now c.is_choice.result c.in_default.ensures.none c.is_choice.ensures c.if-is_choice.true

pub returns-in-Some-choice_in : goal.returns-in-Some-choice_in
returns-in-Some-choice_in t c =
    let later : c.args.place ≡ suc (c.args.place - 1) = omega (arith, c.if-place-gt0.true) in
    later_choice c.args.place (c.args.place - 1) c.in-Some-choice_in.at c.args.line.now c.in-Some.field.now c.in-Some.behind.now c.in-Some.field-0-1 later c.in-Some.ensures.split c.in-Some.ensures.first c.in-Some.ensures.end c.in-Some-choice_in.ensures

pub returns-then-is_choice-2 : goal.returns-then-is_choice-2
returns-then-is_choice-2 t c = first_choice c.args.place c.args.line.now c.in-Some.field.now c.in-Some.behind.now c.in-Some.field-0-1 c.is_choice-2.result (omega (arith, c.if-place-gt0.false)) c.in-Some.ensures.split c.in-Some.ensures.first c.in-Some.ensures.end c.is_choice-2.ensures c.if-is_choice-2.true
