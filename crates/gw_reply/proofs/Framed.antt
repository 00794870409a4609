-- A text in braces whose first byte was a comma, as an action reply has it.
use Rattle.std.proofs.Common.{◌≡◌, ℕ, List, [], ◌∷◌, ◌++◌, drop, map, Ok, append_assoc, refl, sym, ap, ◌∙◌}
use Rattle.gw_reply.specs.declared.context_parts.ContextPart.{ContextPart}
use Rattle.gw_reply.specs.declared.reply.CommandReply.{CommandReply}
use Rattle.gw_reply.specs.ContextParts.{context_part_text}
use Rattle.gw_reply.specs.Lists.{comma_separated, later}
use Rattle.gw_reply.specs.Replies.{command_reply_text, inner_text}
use Rattle.gw_reply.proofs.Joins.{first_then, behind_map, behind_all}

-- parts behind a comma each, without the first comma
pub without_comma : {T : Type 0} (text : T → List ℕ) (parts : List T) → drop 1 (later text parts) ≡ comma_separated (map text parts)
without_comma text [] = refl
without_comma text (p ∷ ps) = ap (λ (t : List ℕ). text p ++ t) (sym (behind_all text ps)) ∙ sym (first_then (text p) (map text ps))

-- so is what stands between the braces of an action reply
pub inner_framed : (parts : List ContextPart) (replies : List CommandReply) → drop 1 (later context_part_text parts ++ later command_reply_text replies) ≡ inner_text parts (Ok replies)
inner_framed [] replies = without_comma command_reply_text replies
inner_framed (p ∷ ps) replies =
    append_assoc (context_part_text p) (later context_part_text ps) (later command_reply_text replies)
    ∙ ap (λ (t : List ℕ). context_part_text p ++ (later context_part_text ps ++ t)) (sym (behind_all command_reply_text replies))
    ∙ ap (λ (t : List ℕ). context_part_text p ++ t) (sym (behind_map context_part_text ps (map command_reply_text replies)))
    ∙ sym (first_then (context_part_text p) (map context_part_text ps ++ map command_reply_text replies))
