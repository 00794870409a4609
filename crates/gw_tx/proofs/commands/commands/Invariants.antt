use Rattle.std.proofs.Common.{drop}
use Rattle.gw_reserve.specs.Owned.{paired_commands}
use Rattle.gw_tx.specs.Transactions.{commands}
use Rattle.gw_tx.proofs.CommandsSoFar.{AreSoFar}
use Rattle.gw_tx.proofs.commands.commands.Given as goal

abbrev pub invariant-loop-command : goal.invariant-loop-command
invariant-loop-command l = AreSoFar l.task.rules.now l.late l.fn.draft l.fn.writer (commands l.task.rules.now l.late l.fn.at (paired_commands l.task.slots.now l.sent) l.fn.draft.maps) l.writer l.at l.left (drop l.command-index l.sent) l.draft
