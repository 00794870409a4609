use Rattle.std.proofs.Common.{◌≡◌, true, [], ap, ◌∙◌}
use Rattle.gw_base.specs.declared.key.Key.TheVariants.{Ctx}
use Rattle.gw_base.specs.Keys.{has}
use Rattle.gw_base.proofs.KeyTests.{has-head}
use Rattle.gw_table.specs.Parts.{PartKeys, holds}
use Rattle.gw_refusal.specs.declared.at.At.{At}
use Rattle.gw_cmd.specs.Keys.{action_keys}
use Rattle.gw_cmd.proofs.Ready.{among_action}
use Rattle.gw_tx.proofs.commands.attempt.Goals as goal

pub set_when_made-requires-clause-key : goal.set_when_made-requires-clause-key
set_when_made-requires-clause-key c = λ n e.
    let there : has (action_keys c.args.at) (Ctx n) ≡ true = ap (λ (a : At). has (action_keys a) (Ctx n)) e ∙ has-head (Ctx n) [] in
    ap (λ (k : PartKeys). holds k (Ctx n)) c.in_ok-done.ensures.keys
    ∙ c.requires.covered.held (Ctx n) (among_action c.args.at c.args.slot c.args.prepared.now.command.now c.args.draft.now.maps (Ctx n) there)
