-- The text of a reply of which was told within the limit of its message.
use Rattle.std.proofs.Common.{◌≡◌, ℕ, ◌+◌, Bool, true, false, List, drop, length, codes, decimal, ◌++◌, Result, arith, length-append, refl, ap}
use Rattle.std.specs.Prelude.{if◌then◌else◌}
use Rattle.std.proofs.lemmas.Bool.{leb-true, leb-false, le-leb}
use Rattle.gw_base.proofs.Booleans.{refuted}
use Rattle.gw_base.specs.declared.code.Code.{Code}
use Rattle.gw_base.specs.declared.command_words.Rules.{Rules}
use Rattle.gw_base.specs.declared.ids.TxId.{TxId}
use Rattle.gw_msg.specs.declared.message.Request.{Request}
use Rattle.gw_reply.specs.Messages.{message_text, too_long, reply_text}
use Rattle.gw_reply.proofs.Framed.{without_comma}
use Rattle.gw_reply.specs.Lists.{in_braces}
use Rattle.gw_reply.specs.Replies.{action_reply_text, framed_reply, later_replies, replies_text, transaction_reply_text}
use Rattle.gw_reply.specs.declared.reply.ActionReply.{ActionReply}
use Rattle.gw_reply.specs.declared.reply.TxReply.{TxReply}
use Rattle.gw_reserve.specs.Owned.{OwnedAction}
use Rattle.gw_table.specs.Maps.{Maps}
use Rattle.gw_tx.specs.declared.limited_text.LimitedText.{LimitedText}
use Rattle.gw_tx.specs.declared.limited_text.LimitedText.TheVariants.{Whole, TooLong}
use Rattle.gw_tx.specs.LimitedText.{within}
use Rattle.gw_tx.specs.Transactions.{paired_transaction}
use Rattle.gw_board.specs.Limits.{reply_limit}

pub same_id : (rules : Rules) (r : Request) (owners : List OwnedAction) (m : Maps) → (paired_transaction rules r owners m).answer.id ≡ r.id
unfolding paired_transaction
same_id rules r owners m = refl

-- what is told is told of a reply that is not too long
by_whole : (b : Bool) (text all : List ℕ) → Whole text ≡ (let t : LimitedText = if b then Whole all else TooLong in t) → (text ≡ all) × (b ≡ true)
by_whole b text all e = grind arith

by_long : (b : Bool) (all : List ℕ) → TooLong ≡ (let t : LimitedText = if b then Whole all else TooLong in t) → b ≡ false
by_long b all e = grind arith

length-message : (mid body : List ℕ) → length (message_text mid body) ≡ length mid + 10 + length body
length-message mid body = omega (arith, length-append (mid ++ codes "\n") body, length-append mid (codes "\n"))

-- between the braces of a reply stand its actions, of which the first has no comma before it
joined : (r : Result (List ActionReply) Code) → drop 1 (later_replies action_reply_text r) ≡ replies_text action_reply_text r
joined r = grind (arith, without_comma)

framed_is : (reply : TxReply) → framed_reply reply.id (later_replies action_reply_text reply.result) ≡ transaction_reply_text reply
framed_is reply = ap (λ (t : List ℕ). codes "Reply=" ++ decimal reply.id.0 ++ in_braces t) (joined reply.result)

-- what is told in its frame is the message of the reply
pub told_is : (mid text : List ℕ) (reply : TxReply) → Whole text ≡ within (reply_limit mid) reply → message_text mid (framed_reply reply.id text) ≡ reply_text mid reply
unfolding reply_text
told_is mid text reply e = grind (arith, by_whole, leb-true, le-leb, length-message, framed_is)

-- one that is too long is told as error 533, as this error itself is
short_text : (mid : List ℕ) (id : TxId) → reply_text mid (too_long id) ≡ message_text mid (transaction_reply_text (too_long id))
unfolding reply_text
short_text mid id = grind arith

pub too_long_is : (mid : List ℕ) (reply : TxReply) → TooLong ≡ within (reply_limit mid) reply → reply_text mid (too_long reply.id) ≡ reply_text mid reply
unfolding reply_text
too_long_is mid reply e = grind (arith, leb-false, by_long, length-message, refuted, leb-true, short_text)
