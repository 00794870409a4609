use Rattle.gw_refusal.specs.declared.at.At.TheVariants.{Each}
use Rattle.gw_tx.specs.Properties.{set_properties}
use Rattle.gw_tx.specs.Transactions.{commands}
use Rattle.gw_tx.proofs.Parts.{covers_set, unused_set}
use Rattle.gw_tx.proofs.contexts.in_each.Goals as goal

pub commands_prepared-requires-clause-covered : goal.commands_prepared-requires-clause-covered
commands_prepared-requires-clause-covered c = covers_set c.args.draft.now c.set_properties.new.draft c.args.task.now.slots.now c.args.number c.as_slice.result.now (Each c.args.number) c.args.task.now.sent.now.commands c.requires.covered c.requires.unused c.in_ok-set_properties.ensures.maps c.in_ok-set_properties.ensures.keys

pub commands_prepared-requires-clause-unused : goal.commands_prepared-requires-clause-unused
commands_prepared-requires-clause-unused c = unused_set c.args.draft.now c.set_properties.new.draft c.args.task.now.slots.now c.args.number c.as_slice.result.now (Each c.args.number) c.args.task.now.sent.now.commands c.requires.covered c.requires.unused c.in_ok-set_properties.ensures.maps c.in_ok-set_properties.ensures.keys
