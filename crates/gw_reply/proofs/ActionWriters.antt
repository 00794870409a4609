-- The reply to an action within a limit: it is no shorter than what stands between its braces.
use Rattle.std.proofs.Common.{◌≡◌, ℕ, ◌+◌, ◌-◌, ◌≤◌, ◌<◌, Bool, true, false, nat_le, List, [], ◌∷◌, ◌++◌, drop, length, Ok, arith, length-append, length-drop, append-nil, refl, sym, ap, ◌∙◌}
use Rattle.std.specs.Prelude.{if◌then◌else◌}
use Rattle.std.proofs.lemmas.Bool.{leb-true, leb-false}
use Rattle.gw_base.specs.declared.command_words.CtxRef.{CtxRef}
use Rattle.gw_reply.specs.Contexts.{context_text}
use Rattle.gw_reply.specs.ContextParts.{context_part_text}
use Rattle.gw_reply.specs.Lists.{comma, in_braces, later}
use Rattle.gw_reply.specs.Replies.{action_reply_text, command_reply_text, framed}
use Rattle.gw_reply.specs.Writers.{written_within, written_behind}
use Rattle.gw_reply.specs.declared.context_parts.ContextPart.{ContextPart}
use Rattle.gw_reply.specs.declared.reply.ActionReply.{ActionReply}
use Rattle.gw_reply.specs.declared.reply.CommandReply.{CommandReply}
use Rattle.gw_reply.specs.declared.writer.ReplyWriter.{ReplyWriter}
use Rattle.gw_reply.specs.declared.writer.ReplyWriter.TheVariants.{All, Within, TooLong}
use Rattle.gw_reply.proofs.Framed.{inner_framed}
use Rattle.gw_reply.proofs.TextLengths.{length-in_braces}
use Rattle.gw_reply.proofs.Writers.{if_room, if_none}

-- the comma, the frame, and what stands in it
framed_length : (ctx : CtxRef) (inner : List ℕ) → length (comma ∷ framed ctx inner) ≡ 11 + length (context_text ctx) + (length inner - 1)
framed_length ctx inner = omega (arith, length-append (context_text ctx) (in_braces (drop 1 inner)), length-in_braces (drop 1 inner), length-drop 1 inner)

abbrev text_of : {T : Type 0} → ReplyWriter T → List ℕ
text_of (All replies) = []
text_of (Within text room) = text
text_of TooLong = []

is_whole : {T : Type 0} (more text : List ℕ) (room left : ℕ) (fits : Bool) → (let t : ReplyWriter T = if fits then Within ([] ++ more) (room - length more) else TooLong in t) ≡ Within text left → text ≡ more
is_whole more text room left true e = sym (ap (λ t. text_of t) e)
is_whole more text room left false e = absurd cc

-- what is written within a limit is all that there is
whole : {T : Type 0} (more text : List ℕ) (room left : ℕ) (t : ReplyWriter T) → t ≡ Within text left → t ≡ written_within [] more room → text ≡ more
whole more text room left t is e = is_whole more text room left (nat_le (length more) room) (sym e ∙ is)

-- what is not written within a limit is longer
not_whole : {T : Type 0} (more : List ℕ) (room : ℕ) (t : ReplyWriter T) → ((text : List ℕ) (left : ℕ) → t ≡ Within text left → ⊥) → t ≡ written_within [] more room → room < length more
not_whole more room t none e = by (nat_le (length more) room) refl
  where
    by : (fits : Bool) → nat_le (length more) room ≡ fits → room < length more
    by true f = absurd (none more (room - length more) (e ∙ if_room [] more room (leb-true (length more) room f)))
    by false f = leb-false (length more) room f

module _ (front : List ℕ) (room : ℕ) (ctx : CtxRef) (parts : List ContextPart) (replies : List CommandReply) where
  abbrev reply : ActionReply
  reply = record { ctx = ctx; parts = parts; result = Ok replies }

  -- the text of the reply behind a comma
  text_is : later action_reply_text (reply ∷ []) ≡ comma ∷ framed ctx (later context_part_text parts ++ later command_reply_text replies)
  text_is = append-nil (comma ∷ action_reply_text reply) ∙ ap (λ (t : List ℕ). comma ∷ 67 ∷ 111 ∷ 110 ∷ 116 ∷ 101 ∷ 120 ∷ 116 ∷ 61 ∷ (context_text ctx ++ in_braces t)) (sym (inner_framed parts replies))

  written_is : written_within front (comma ∷ framed ctx (later context_part_text parts ++ later command_reply_text replies)) room ≡ written_behind action_reply_text (Within front room) (reply ∷ [])
  written_is = ap (λ (t : List ℕ). written_within front t room) (sym text_is)

  longer : (n : ℕ) → room < n → n ≤ length (later context_part_text parts) + length (later command_reply_text replies) → TooLong ≡ written_behind action_reply_text (Within front room) (reply ∷ [])
  longer n more le =
      let inner : List ℕ = later context_part_text parts ++ later command_reply_text replies in
      sym (sym written_is ∙ if_none front (comma ∷ framed ctx inner) room (omega (arith, more, le, framed_length ctx inner, length-append (later context_part_text parts) (later command_reply_text replies))))

  pub parts_too_long : (t : ReplyWriter ContextPart) → ((text : List ℕ) (left : ℕ) → t ≡ Within text left → ⊥) → t ≡ written_within [] (later context_part_text parts) room → TooLong ≡ written_behind action_reply_text (Within front room) (reply ∷ [])
  parts_too_long t none e = longer (length (later context_part_text parts)) (not_whole (later context_part_text parts) room t none e) (omega arith)

  pub replies_too_long : (t : ReplyWriter CommandReply) → ((text : List ℕ) (left : ℕ) → t ≡ Within text left → ⊥) → t ≡ written_within [] (later command_reply_text replies) room → TooLong ≡ written_behind action_reply_text (Within front room) (reply ∷ [])
  replies_too_long t none e = longer (length (later command_reply_text replies)) (not_whole (later command_reply_text replies) room t none e) (omega arith)

  -- where both are written, they are whole
  pub written_whole : (texts : List ℕ) (more : List ℕ) (a b : ℕ) (p : ReplyWriter ContextPart) (r : ReplyWriter CommandReply) → p ≡ Within texts a → r ≡ Within more b → p ≡ written_within [] (later context_part_text parts) room → r ≡ written_within [] (later command_reply_text replies) room
      → written_within front (comma ∷ framed ctx (texts ++ more)) room ≡ written_behind action_reply_text (Within front room) (reply ∷ [])
  written_whole texts more a b p r is_p is_r e_p e_r =
      ap (λ (t : List ℕ). written_within front (comma ∷ framed ctx (t ++ more)) room) (whole (later context_part_text parts) texts room a p is_p e_p)
      ∙ ap (λ (t : List ℕ). written_within front (comma ∷ framed ctx (later context_part_text parts ++ t)) room) (whole (later command_reply_text replies) more room b r is_r e_r)
      ∙ written_is
