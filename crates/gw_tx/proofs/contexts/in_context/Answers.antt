use Rattle.gw_refusal.specs.declared.at.At.TheVariants.{Live}
use Rattle.gw_tx.specs.Properties.{set_properties}
use Rattle.gw_tx.specs.Transactions.{commands}
use Rattle.gw_tx.proofs.Parts.{covers_set, unused_set}
use Rattle.gw_tx.proofs.contexts.in_context.Goals as goal

pub commands_in-requires-clause-covered : goal.commands_in-requires-clause-covered
commands_in-requires-clause-covered c = covers_set c.args.draft.now c.set_properties.new.draft c.args.task.now.slots.now c.args.number c.as_slice.result.now (Live c.args.number) c.args.task.now.sent.now.commands c.requires.covered c.requires.unused c.in_ok-set_properties.ensures.maps c.in_ok-set_properties.ensures.keys

pub commands_in-requires-clause-unused : goal.commands_in-requires-clause-unused
commands_in-requires-clause-unused c = unused_set c.args.draft.now c.set_properties.new.draft c.args.task.now.slots.now c.args.number c.as_slice.result.now (Live c.args.number) c.args.task.now.sent.now.commands c.requires.covered c.requires.unused c.in_ok-set_properties.ensures.maps c.in_ok-set_properties.ensures.keys
