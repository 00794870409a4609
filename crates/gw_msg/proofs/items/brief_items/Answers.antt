use Rattle.std.proofs.Common.{◌≡◌, true, false, refl, length-append, arith}
use Rattle.std.proofs.lemmas.Result.{err_from_is_err_and}
use Rattle.gw_text.specs.Reader.{items_at}
use Rattle.gw_text.proofs.PartLoops.{items_loop_fails, items_loop_ends, items_loop_goes_on}
use Rattle.gw_msg.specs.Reading.{item_at}
use Rattle.gw_msg.proofs.ItemLaws.{item_shrinks}
use Rattle.gw_msg.proofs.items.brief_items.Goals as goal

pub returns-in_err-part : goal.returns-in_err-part
returns-in_err-part c = grind (arith, err_from_is_err_and, items_loop_fails)

pub returns-then-is_empty : goal.returns-then-is_empty
returns-then-is_empty c =
    rw c.in_ok-push.ensures.ok
    (items_loop_ends item_at c.loop-parts.parts c.loop-parts.cursor c.in_ok-part.part c.item.new.cursor c.lwsp.result.now c.lwsp.new.self (items_at item_at c.args.cursor.now) c.in_ok-part.ensures c.lwsp.ensures.exact (c.if-is_empty.ensures.0 refl) c.loop-parts.invariant)

pub loop-parts-preserved : goal.loop-parts-preserved
loop-parts-preserved c =
    rw c.in_ok-push.ensures.ok
    (items_loop_goes_on item_at item_shrinks c.loop-parts.parts c.loop-parts.cursor c.in_ok-part.part c.item.new.cursor c.lwsp.result.now c.lwsp.new.self (items_at item_at c.args.cursor.now) c.in_ok-part.ensures c.lwsp.ensures.exact (λ n. let e : false ≡ true = c.if-is_empty.ensures.1 n in absurd cc) c.loop-parts.invariant)

pub loop-parts-smaller : goal.loop-parts-smaller
loop-parts-smaller c = grind (arith, item_shrinks, length-append)
