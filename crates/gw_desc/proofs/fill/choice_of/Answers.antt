use Rattle.std.proofs.Common.{sym, ◌∙◌}
use Rattle.gw_desc.proofs.FillRuns.{at_connection, at_media}
use Rattle.gw_desc.proofs.fill.choice_of.Goals as goal

pub returns-then-starts_with-clause-filled : goal.returns-then-starts_with-clause-filled
returns-then-starts_with-clause-filled c = at_connection c.args.address.now c.args.port.now c.args.line.now c.in_ok-choice_in.field-0 (sym c.starts_with.ensures.value ∙ c.if-starts_with.true) c.in_ok-choice_in.ensures

pub returns-then-starts_with-2-clause-filled : goal.returns-then-starts_with-2-clause-filled
returns-then-starts_with-2-clause-filled c = at_media c.args.address.now c.args.port.now c.args.line.now c.in_ok-choice_in-2.field-0 (sym c.starts_with.ensures.value ∙ c.if-starts_with.false) (sym c.starts_with-2.ensures.value ∙ c.if-starts_with-2.true) c.in_ok-choice_in-2.ensures
