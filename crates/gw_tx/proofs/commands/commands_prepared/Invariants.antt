use Rattle.std.proofs.Common.{[], drop}
use Rattle.gw_cmd.specs.Prepared.{ArePrepared}
use Rattle.gw_reserve.specs.Owned.{paired_commands}
use Rattle.gw_tx.specs.Transactions.{commands}
use Rattle.gw_tx.proofs.CommandsSoFar.{AreSoFar}
use Rattle.gw_tx.proofs.commands.commands_prepared.Given as goal

abbrev pub invariant-loop-command : goal.invariant-loop-command
invariant-loop-command l = record {
  so_far : AreSoFar l.fn.task.rules.now [] l.fn.draft l.fn.writer (commands l.fn.task.rules.now [] l.fn.at (paired_commands l.fn.task.slots.now l.fn.task.sent.now.commands) l.fn.draft.maps) l.writer l.at l.left (drop l.command-index l.fn.task.sent.now.commands) l.draft;
  prepared : ArePrepared l.fn.task.rules.now l.prepared l.fn.task.sent.now.commands;
}
