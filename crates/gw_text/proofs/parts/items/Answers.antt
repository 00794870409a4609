use Rattle.std.proofs.Common.{◌≡◌, ◌∙◌, true, false, [], refl, arith}
use Rattle.std.proofs.lemmas.Grind.{common_steps}
use Rattle.gw_text.specs.Reader.{items_at}
use Rattle.gw_text.proofs.PartLoops.{lone_item_ends, items_loop_ends, items_loop_goes_on}
use Rattle.gw_text.proofs.parts.items.Goals as goal

pub returns-then-is_empty-2 : goal.returns-then-is_empty-2
returns-then-is_empty-2 g c =
    let first : c.loop-parts.parts.items ≡ [] = grind (arith, common_steps) in
    rw c.in_ok-one.ensures
    (lone_item_ends g.T.Parse.read_at c.loop-parts.parts.items c.loop-parts.cursor c.in_ok-part.part c.read.new.cursor c.lwsp.result.now c.lwsp.new.self (items_at g.T.Parse.read_at c.args.cursor.now) first c.in_ok-part.ensures c.lwsp.ensures.exact (c.if-is_empty.ensures.0 refl) c.loop-parts.invariant)

pub returns-then-is_empty : goal.returns-then-is_empty
returns-then-is_empty g c =
    rw (c.kept.ensures ∙ c.in_ok-put_last.ensures)
    (items_loop_ends g.T.Parse.read_at c.loop-parts.parts.items c.loop-parts.cursor c.in_ok-part.part c.read.new.cursor c.lwsp.result.now c.lwsp.new.self (items_at g.T.Parse.read_at c.args.cursor.now) c.in_ok-part.ensures c.lwsp.ensures.exact (c.if-is_empty.ensures.0 refl) c.loop-parts.invariant)

pub loop-parts-preserved : goal.loop-parts-preserved
loop-parts-preserved g c =
    rw c.in_ok-put.ensures
    (items_loop_goes_on g.T.Parse.read_at c.requires c.loop-parts.parts.items c.loop-parts.cursor c.in_ok-part.part c.read.new.cursor c.lwsp.result.now c.lwsp.new.self (items_at g.T.Parse.read_at c.args.cursor.now) c.in_ok-part.ensures c.lwsp.ensures.exact (λ n. let e : false ≡ true = c.if-is_empty.ensures.1 n in absurd cc) c.loop-parts.invariant)
