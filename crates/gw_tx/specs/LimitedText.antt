-- What is written of a transaction (own): the text of its replies within a limit, or that its whole text is longer.
use Rattle.std.specs.Prelude.{◌≡◌, ℕ, ◌==◌, Bool, false, nat_le, if◌then◌else◌, List, [], length}
use Rattle.gw_reply.specs.declared.writer.ReplyWriter.{ReplyWriter}
use Rattle.gw_reply.specs.declared.writer.ReplyWriter.TheVariants as writer
use Rattle.gw_reply.specs.Writers.{written_behind}
use Rattle.gw_reply.specs.Lists.{later}
use Rattle.gw_reply.specs.declared.reply.ActionReply.{ActionReply}
use Rattle.gw_reply.specs.declared.reply.TxReply.{TxReply}
use Rattle.gw_reply.specs.Replies.{action_reply_text, later_replies, transaction_reply_text}
use Rattle.gw_reserve.specs.Owned.{OwnedAction, paired_action}
use Rattle.gw_table.specs.declared.attempts.Attempts.{Attempts}
use Rattle.gw_tx.specs.declared.owned.ActionTask.{ActionTask}
use Rattle.gw_tx.specs.declared.limited_text.Progress.{Progress}
use Rattle.gw_tx.specs.declared.limited_text.LimitedText.{LimitedText}
use Rattle.gw_tx.specs.declared.limited_text.LimitedText.TheVariants.{Whole, TooLong}

-- the text of its action replies, each behind a comma, where the text of the reply has so many bytes at most
abbrev pub within : ℕ → TxReply → LimitedText
within limit reply = if nat_le (length (transaction_reply_text reply)) limit then Whole (later_replies action_reply_text reply.result) else TooLong

-- the action of a task, with what it owns
abbrev pub owned_action : ActionTask → OwnedAction
owned_action task = paired_action task.number task.slots.now task.sent.now

-- what attempts came to, written behind what was written before them
abbrev pub progress : {S A : Type 0} → (A → List ℕ) → ReplyWriter A → Attempts S A → Progress S A
progress text w done = record { next = done.next; writer = written_behind text w done.answers; stopped = done.stopped }

-- there is a limit
abbrev pub IsLimited : ReplyWriter ActionReply → Type 0
IsLimited (writer.All replies) = ⊥
IsLimited (writer.Within text room) = Unit
IsLimited writer.TooLong = Unit

-- behind the last action
abbrev pub limited_text_of : ReplyWriter ActionReply → LimitedText
limited_text_of (writer.All replies) = Whole (later action_reply_text replies)
limited_text_of (writer.Within text room) = Whole text
limited_text_of writer.TooLong = TooLong

-- nothing was written before
abbrev pub IsBegun : {T : Type 0} → ReplyWriter T → Type 0
IsBegun (writer.All parts) = parts ≡ []
IsBegun (writer.Within text room) = text ≡ []
IsBegun writer.TooLong = Unit

-- nothing was written, though there was room for it
abbrev pub is_unused : {T : Type 0} → ReplyWriter T → Bool
is_unused (writer.All parts) = length parts == 0
is_unused (writer.Within text room) = length text == 0
is_unused writer.TooLong = false
