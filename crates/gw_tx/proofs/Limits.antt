-- The frame of a reply, and its limit.
use Rattle.std.proofs.Common.{◌≡◌, ℕ, ◌+◌, ◌-◌, nat_le, Bool, true, false, List, [], ◌∷◌, ◌++◌, length, map, decimal, Ok, arith, length-append, refl, ap, sym}
use Rattle.std.specs.Prelude.{if◌then◌else◌}
use Rattle.std.proofs.lemmas.Bool.{leb-true, leb-false, le-leb}
use Rattle.gw_base.specs.declared.ids.TxId.{TxId}
use Rattle.gw_reply.specs.declared.writer.ReplyWriter.TheVariants as writer
use Rattle.gw_reply.specs.Writers.{written_behind}
use Rattle.gw_reply.proofs.Framed.{without_comma}
use Rattle.gw_reply.proofs.Writers.{not_le}
use Rattle.gw_reply.specs.Lists.{comma_separated, later}
use Rattle.gw_reply.specs.declared.reply.ActionReply.{ActionReply}
use Rattle.gw_reply.specs.Replies.{action_reply_text, transaction_reply_text}
use Rattle.gw_tx.specs.declared.limited_text.LimitedText.{LimitedText}
use Rattle.gw_tx.specs.declared.limited_text.LimitedText.TheVariants.{Whole, TooLong}
use Rattle.gw_tx.specs.LimitedText.{limited_text_of, within}

-- the text of a reply is eight bytes, its number, and its actions
length-reply : (id : TxId) (replies : List ActionReply) → length (transaction_reply_text (record { id = id; result = Ok replies })) ≡ length (decimal id.0) + 8 + length (comma_separated (map action_reply_text replies))
length-reply id replies = grind (arith, length-append)

-- they have a comma less between two of them than before each
length-joined : (r : ActionReply) (rs : List ActionReply) → length (comma_separated (map action_reply_text (r ∷ rs))) + 1 ≡ length (later action_reply_text (r ∷ rs))
length-joined r rs = let all = ap (λ (l : List ℕ). length l) (without_comma action_reply_text (r ∷ rs)) in omega (arith, all)

-- a list of actions fits between the braces where it has room for one comma more
fits_both : (replies : List ActionReply) (left : ℕ) (b : Bool) → nat_le (length (later action_reply_text replies)) (left + 1) ≡ b → nat_le (length (comma_separated (map action_reply_text replies))) left ≡ b
fits_both [] left true e = le-leb 0 left (omega arith)
fits_both [] left false e = let more = leb-false 0 (left + 1) e in absurd (omega (arith, more))
fits_both (r ∷ rs) left true e = grind (arith, leb-true, le-leb, length-joined)
fits_both (r ∷ rs) left false e = grind (arith, leb-false, not_le, length-joined)

fits_frame : (all frame inner left limit : ℕ) (b : Bool) → all ≡ frame + inner → left + frame ≡ limit → nat_le inner left ≡ b → nat_le all limit ≡ b
fits_frame all frame inner left limit b sum room e = grind arith

pub framed : (id : TxId) (replies : List ActionReply) (left limit : ℕ) → left + (length (decimal id.0) + 8) ≡ limit
    → limited_text_of (written_behind action_reply_text (writer.Within [] (left + 1)) replies) ≡ within limit (record { id = id; result = Ok replies })
framed id replies left limit room = by (nat_le (length (later action_reply_text replies)) (left + 1)) refl
  where
    fits : (b : Bool) → nat_le (length (later action_reply_text replies)) (left + 1) ≡ b → nat_le (length (transaction_reply_text (record { id = id; result = Ok replies }))) limit ≡ b
    fits b e = fits_frame (length (transaction_reply_text (record { id = id; result = Ok replies }))) (length (decimal id.0) + 8) (length (comma_separated (map action_reply_text replies))) left limit b (length-reply id replies) room (fits_both replies left b e)

    by : (b : Bool) → nat_le (length (later action_reply_text replies)) (left + 1) ≡ b → limited_text_of (if b then writer.Within ([] ++ later action_reply_text replies) (left + 1 - length (later action_reply_text replies)) else writer.TooLong) ≡ within limit (record { id = id; result = Ok replies })
    by true e = sym (ap (λ (b : Bool). let t : LimitedText = if b then Whole (later action_reply_text replies) else TooLong in t) (fits true e))
    by false e = sym (ap (λ (b : Bool). let t : LimitedText = if b then Whole (later action_reply_text replies) else TooLong in t) (fits false e))
