use Rattle.std.proofs.Common.{◌≡◌, true, false, refl, rules, arith}
use Rattle.std.proofs.lemmas.Result.{err_from_is_err_and}
use Rattle.gw_text.specs.Runs.{begins}
use Rattle.gw_msg.specs.Words.{is_context_property_start}
use Rattle.gw_msg.specs.Reading.{contents_at}
use Rattle.gw_msg.proofs.Laws.{command_shrinks}
use Rattle.gw_msg.proofs.ContentsLoop.{goes_on, ends, fails, commands_end, commands_fail, read_less}
use Rattle.gw_msg.proofs.actions.contents.Goals as goal

pub returns-in_err-prop : goal.returns-in_err-prop
returns-in_err-prop c =
    let p = err_from_is_err_and c.from_residual.result c.from_residual.ensures.1 in
    let is : begins is_context_property_start c.loop-cursor.cursor ≡ true = search rules in
    rw (p.1, p.2) (fails c.in_err-prop.field-0.0 c.loop-cursor.props.items c.loop-cursor.cursor c.read.new.cursor c.read.new.cursor (contents_at c.args.cursor.now) is c.in_err-prop.ensures c.loop-cursor.invariant)

pub returns-then-not-sign : goal.returns-then-not-sign
returns-then-not-sign c = grind (arith, ends)

pub loop-cursor-smaller : goal.loop-cursor-smaller
loop-cursor-smaller c = grind (arith, read_less)

pub loop-cursor-preserved : goal.loop-cursor-preserved
loop-cursor-preserved c = grind (arith, goes_on)

pub list-requires : goal.list-requires
list-requires c = λ k. ((refl, tt), command_shrinks)

pub returns-in_err-commands : goal.returns-in_err-commands
returns-in_err-commands c =
    let p = err_from_is_err_and c.from_residual-in_err-commands.result c.from_residual-in_err-commands.ensures.1 in
    let is : begins is_context_property_start c.loop-cursor.cursor ≡ false = search rules in
    rw (p.1, p.2) (commands_fail c.in_err-commands.field-0.0 c.loop-cursor.props.items c.loop-cursor.cursor c.list.new.cursor c.list.new.cursor (contents_at c.args.cursor.now) is c.in_err-commands.ensures c.loop-cursor.invariant)

pub returns : goal.returns
returns c = grind (arith, commands_end)
