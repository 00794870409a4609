use Rattle.std.proofs.Common.{◌≡◌, ◌∙◌, true, false, ◌++◌, ◌∷◌, [], refl, ap, length-append, arith}
use Rattle.std.proofs.lemmas.Grind.{common_steps}
use Rattle.std.proofs.lemmas.Result.{err_from_is_err_and}
use Rattle.gw_text.specs.Reader.{items_at}
use Rattle.gw_text.proofs.PartLoops.{items_loop_fails, lone_item_ends, items_loop_ends, items_loop_goes_on}
use Rattle.gw_msg.specs.Reading.{item_at}
use Rattle.gw_msg.proofs.ItemLaws.{item_shrinks}
use Rattle.gw_msg.proofs.items.whole_items.Goals as goal

pub returns-in_err-part : goal.returns-in_err-part
returns-in_err-part c = grind (arith, err_from_is_err_and, items_loop_fails)

pub returns-then-is_empty-2 : goal.returns-then-is_empty-2
returns-then-is_empty-2 c =
    let first : c.loop-parts.parts.items ≡ [] = grind (arith, common_steps) in
    rw c.in_ok-one.ensures
    (lone_item_ends item_at c.loop-parts.parts.items c.loop-parts.cursor c.in_ok-part.part c.item.new.cursor c.lwsp.result.now c.lwsp.new.self (items_at item_at c.args.cursor.now) first c.in_ok-part.ensures c.lwsp.ensures.exact (c.if-is_empty.ensures.0 refl) c.loop-parts.invariant)

pub returns-then-is_empty : goal.returns-then-is_empty
returns-then-is_empty c =
    rw (c.kept.ensures ∙ c.in_ok-put.ensures)
    (items_loop_ends item_at c.loop-parts.parts.items c.loop-parts.cursor c.in_ok-part.part c.item.new.cursor c.lwsp.result.now c.lwsp.new.self (items_at item_at c.args.cursor.now) c.in_ok-part.ensures c.lwsp.ensures.exact (c.if-is_empty.ensures.0 refl) c.loop-parts.invariant)

pub loop-parts-preserved : goal.loop-parts-preserved
loop-parts-preserved c =
    rw (c.push_reserved.ensures.items ∙ ap (λ is. is ++ c.in_ok-part.part ∷ []) c.in_ok-make_room.ensures.items)
    (items_loop_goes_on item_at item_shrinks c.loop-parts.parts.items c.loop-parts.cursor c.in_ok-part.part c.item.new.cursor c.lwsp.result.now c.lwsp.new.self (items_at item_at c.args.cursor.now) c.in_ok-part.ensures c.lwsp.ensures.exact (λ n. let e : false ≡ true = c.if-is_empty.ensures.1 n in absurd cc) c.loop-parts.invariant)

pub loop-parts-smaller : goal.loop-parts-smaller
loop-parts-smaller c = grind (arith, item_shrinks, length-append)
