use Rattle.std.proofs.Common.{◌≡◌, drop}
use Rattle.gw_cmd.proofs.Parted.{StaysPart}
use Rattle.gw_reply.specs.Replies.{action_reply_text}
use Rattle.gw_reserve.specs.Owned.{paired_actions}
use Rattle.gw_table.specs.Parts.{Holds}
use Rattle.gw_tx.specs.Footprints.{footprint_of}
use Rattle.gw_tx.specs.Transactions.{action, actions}
use Rattle.gw_tx.proofs.FreeSlots.{AnySlot}
use Rattle.gw_tx.proofs.Kept.{With}
use Rattle.gw_tx.proofs.Steps.{IsSoFar}
use Rattle.gw_tx.proofs.actions.actions.Given as goal

-- the draft has the keys of the actions that are left
abbrev pub invariant-loop-one : goal.invariant-loop-one
invariant-loop-one l = record {
  replies : IsSoFar (action l.rules) action_reply_text l.fn.writer (actions l.rules (paired_actions l.numbers l.slots l.sent) l.fn.draft.maps) l.writer tt (paired_actions l.numbers_left l.slots_left (drop l.one-index l.sent)) l.draft.maps;
  held : Holds l.fn.draft.keys (footprint_of (paired_actions l.numbers_left l.slots_left (drop l.one-index l.sent)) l.fn.draft.maps);
  kept : With AnySlot (StaysPart l.fn.draft.keys l.fn.draft.maps) l.slots_left l.draft.maps;
  keys : l.draft.keys ≡ l.fn.draft.keys;
}
