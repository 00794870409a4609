use Rattle.std.proofs.Common.{◌≡◌, drop}
use Rattle.gw_cmd.proofs.Parted.{StaysPart}
use Rattle.gw_cmd.specs.Prepared.{ArePrepared}
use Rattle.gw_reply.specs.Replies.{action_reply_text}
use Rattle.gw_tx.specs.LimitedText.{owned_action}
use Rattle.gw_tx.specs.Transactions.{in_each, in_all}
use Rattle.gw_tx.proofs.FreeSlots.{AnySlot}
use Rattle.gw_tx.proofs.Kept.{With}
use Rattle.gw_tx.proofs.Steps.{IsSoFar}
use Rattle.gw_tx.proofs.contexts.in_all.Given as goal

abbrev pub invariant-loop-number : goal.invariant-loop-number
invariant-loop-number l = record {
  replies : IsSoFar (in_each l.task.rules.now (owned_action l.task)) action_reply_text l.fn.writer (in_all l.task.rules.now (owned_action l.task) l.numbers l.fn.draft.maps) l.writer l.stopped (drop l.number-index l.numbers) l.draft.maps;
  kept : With AnySlot (StaysPart l.fn.draft.keys l.fn.draft.maps) l.task.slots.now l.draft.maps;
  keys : l.draft.keys ≡ l.fn.draft.keys;
  prepared : ArePrepared l.task.rules.now l.prepared l.task.sent.now.commands;
}
