use Rattle.std.proofs.lemmas.Grind.{common_steps}
use Rattle.std.proofs.Common.{◌≡◌, ◌==◌, true, length, List, None, sym, ap, ◌∙◌, arith}
use Rattle.gw_base.specs.declared.command_words.CtxRef.{CtxRef}
use Rattle.gw_msg.specs.declared.message.Command.{Command}
use Rattle.gw_msg.specs.declared.message.ContextProp.{ContextProp}
use Rattle.gw_tx.specs.Properties.{is_left_out, is_misplaced, has_twice, refusal_of_properties}
use Rattle.gw_tx.proofs.properties.refusal_of_properties.Goals as goal

-- where nothing is asked of the context, nothing of it is refused
unasked : (props : List ContextProp) (ctx : CtxRef) (commands : List Command) → length props == 0 ≡ true
    → refusal_of_properties (record { ctx = ctx; props = props; commands = commands }) ≡ None
unfolding is_left_out is_misplaced has_twice refusal_of_properties
unasked props ctx commands none = grind (arith, common_steps)

pub returns-then-is_empty : goal.returns-then-is_empty
returns-then-is_empty c =
    let a = c.args.sent.now in
    let none : length a.props == 0 ≡ true = ap (λ (l : List ContextProp). length l == 0) (sym c.as_slice-props.ensures) ∙ sym c.is_empty.ensures ∙ c.if-is_empty.true in
    sym (unasked a.props a.ctx a.commands none)
