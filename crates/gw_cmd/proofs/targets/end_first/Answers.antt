use Rattle.std.proofs.Common.{◌≡◌, sym, ap, subst, ◌∙◌}
use Rattle.gw_base.specs.declared.key.Key.TheVariants.{Term}
use Rattle.gw_table.specs.Maps.{members_of}
use Rattle.gw_cmd.specs.declared.task.Act.{Act}
use Rattle.gw_cmd.specs.declared.task.Act.TheVariants as act
use Rattle.gw_cmd.specs.declared.task.Task.{Task}
use Rattle.gw_cmd.specs.declared.task.Task.TheVariants as does
use Rattle.gw_cmd.specs.Suits.{LeaveFirst}
use Rattle.gw_cmd.proofs.LeaveFirst.{all_left}
use Rattle.gw_cmd.proofs.targets.end_first.Goals as goal

pub returns-in_ok-set_ctx-clause-first : goal.returns-in_ok-set_ctx-clause-first
returns-in_ok-set_ctx-clause-first c =
    let subtracts : c.in-Act-Subtract.field-0 ≡ act.Subtract c.in-Act-Subtract.number = rw c.in-Act-Subtract.is at c.in-Act-Subtract.field-0-is in
    let all = c.are_all.ensures c.if-are_all.true in
    subst (λ (t : Task). LeaveFirst c.args.draft.now.keys t c.args.named.now c.args.draft.now.maps c.set_ctx.new.self.maps) (sym (c.in-Act-Subtract.is ∙ ap (λ (a : Act). does.Act a) subtracts))
    (subst (LeaveFirst c.args.draft.now.keys (does.Act (act.Subtract c.in-Act-Subtract.number)) c.args.named.now c.args.draft.now.maps) (sym c.in_ok-set_ctx.ensures.maps)
    (all_left c.args.draft.now.keys c.in-Act-Subtract.number c.args.named.now c.args.draft.now.maps c.requires.sound
    (λ t. c.has_every_key.ensures c.if-has_every_key.true (Term t)) (ap (λ o. members_of o) (sym c.ctx.ensures) ∙ all.0) all.1))
