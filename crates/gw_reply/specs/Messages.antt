-- Whole messages (RFC 3525, section 8.3 and Annex B.2, megacoMessage; LF as the only white space behind the mId: own).
use Rattle.std.specs.Prelude.{ℕ, List, length, ◌++◌, codes, nat_le, if◌then◌else◌, Err}
use Rattle.gw_base.specs.declared.code.Code.{Code}
use Rattle.gw_base.specs.declared.code.Code.TheVariants.{ReplyTooLong}
use Rattle.gw_base.specs.declared.ids.TxId.{TxId}
use Rattle.gw_reply.specs.declared.reply.TxReply.{TxReply}
use Rattle.gw_reply.specs.Errors.{error_text}
use Rattle.gw_reply.specs.Replies.{transaction_reply_text}

-- a message of version 1: who sends it, and its body
abbrev pub message_text : List ℕ → List ℕ → List ℕ
message_text mid body = codes "MEGACO/1 " ++ mid ++ codes "\n" ++ body

-- how many bytes stand before a body at most: the version, an mId of 72 bytes and the white space
abbrev pub longest_header : ℕ
longest_header = 82

-- how many bytes a message with a reply may have (own)
abbrev pub longest_message : ℕ
longest_message = 16384

-- how long a reply with one error may be at most, its number of ten digits included
abbrev pub longest_short_reply : ℕ
longest_short_reply = 189

-- the reply to the transaction of this number, with error 533 in place of all that it held
abbrev pub too_long : TxId → TxReply
too_long id = record { id = id; result = Err ReplyTooLong }

-- the message with a reply, or with error 533 in its place where it would be too long
unfoldable pub reply_text : List ℕ → TxReply → List ℕ
reply_text mid reply =
    let whole = message_text mid (transaction_reply_text reply) in
    if nat_le (length whole) longest_message then whole else message_text mid (transaction_reply_text (too_long reply.id))

-- the message with an error as its body
unfoldable pub fault_text : List ℕ → Code → List ℕ
fault_text mid code = message_text mid (error_text code)
