use Rattle.std.proofs.Common.{◌≡◌, Bool, true, false, not, List, [], Option, None, Some, refl, sym, ap, ◌∙◌}
use Rattle.std.specs.Prelude.{if◌then◌else◌}
use Rattle.std.specs.List.{flat_map, list_any}
use Rattle.gw_base.proofs.Booleans.{both}
use Rattle.gw_ctx.specs.Contexts.{ContextRecord}
use Rattle.gw_msg.specs.declared.message.Action.{Action}
use Rattle.gw_reply.proofs.Writers.{written_none}
use Rattle.gw_reply.specs.ContextParts.{context_part_text}
use Rattle.gw_reply.specs.Writers.{inside, written_behind}
use Rattle.gw_reply.specs.declared.context_parts.ContextPart.{ContextPart}
use Rattle.gw_table.specs.Maps.{ctx}
use Rattle.gw_tx.specs.Properties.{is_audit, is_nothing, items_of, kind_in, minimum_priority, item_parts, reply_items, context_parts_if}
use Rattle.gw_tx.proofs.context_parts.context_parts_if.Goals as goal

is_false : (b : Bool) → not b ≡ true → b ≡ false
is_false true h = sym h
is_false false h = refl

-- the reply has nothing of any context
no_part : (a : Action) (o : Option ContextRecord) → is_nothing a.commands ≡ false → list_any is_audit a.props ≡ false → context_parts_if a o ≡ []
unfolding reply_items
no_part a None some none = refl
no_part a (Some c) some none =
    let parts : Bool → Bool → List ContextPart = λ audit nothing. minimum_priority c nothing (flat_map (item_parts c) (if audit then items_of a.props else if nothing then flat_map kind_in a.props else [])) in
    ap (λ (b : Bool). parts b (is_nothing a.commands)) none ∙ ap (λ (b : Bool). parts false b) some

pub returns-then-has_no_part : goal.returns-then-has_no_part
returns-then-has_no_part c =
    let a = c.args in
    let two = both (not (is_nothing a.sent.now.commands)) (not (list_any is_audit a.sent.now.props)) (sym c.has_no_part.ensures ∙ c.if-has_no_part.true) in
    let none = no_part a.sent.now (ctx a.draft.now.maps a.number) (is_false (is_nothing a.sent.now.commands) two.0) (is_false (list_any is_audit a.sent.now.props) two.1) in
    c.inside-begun.ensures ∙ sym (written_none context_part_text (inside {T = ContextPart} a.writer.now)) ∙ ap (λ (l : List ContextPart). written_behind context_part_text (inside {T = ContextPart} a.writer.now) l) (sym none)
