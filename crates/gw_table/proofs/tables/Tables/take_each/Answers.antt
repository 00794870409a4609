use Rattle.std.proofs.Common.{ℕ, ◌+◌, List, length, ◌∷◌, [], ◌++◌, Some, subst, sym, ap, ◌∙◌}
use Rattle.std.proofs.lemmas.List.{take_all, length-append}
use Rattle.gw_base.specs.declared.key.Key.{Key}
use Rattle.gw_table.specs.declared.cell.Cell.{Cell}
use Rattle.gw_table.specs.Cells.{celled, cell_from, IsFound}
use Rattle.gw_table.specs.Stored.{nothing_stored, AreMoved}
use Rattle.gw_table.proofs.Celled.{one_cell_more}
use Rattle.gw_table.proofs.Prepared.{ready_next, moved_next}
use Rattle.gw_table.proofs.tables.Tables.take_each.Goals as goal

pub take_one-requires : goal.take_one-requires
take_one-requires c =
    ready_next c.args.keys.now c.loop-i.i c.index-keys-i.result c.args.self.now nothing_stored c.loop-i.self (celled c.args.keys.now c.loop-i.cells.items)
    (c.loop-i-test.true, sym c.index-keys-i.is) c.loop-i.invariant.moved c.requires.ready

pub loop-i-preserved : goal.loop-i-preserved
loop-i-preserved c =
    let keys : List Key = c.args.keys.now in
    let i : ℕ = c.loop-i.i in
    let k : Key = c.index-keys-i.result in
    let cells : List Cell = c.loop-i.cells.items in
    let found : IsFound keys k (Some i) = (c.loop-i-test.true, sym c.index-keys-i.is) in
    let pushed = c.push_reserved.ensures.items ∙ ap (λ (x : Cell). cells ++ x ∷ []) c.take_one.ensures.full in
    let full =
    ap (λ (x : List Cell). celled keys x) pushed ∙ one_cell_more keys cells i k (cell_from c.loop-i.self k) c.requires.order c.loop-i.invariant.as_many found in
    record {
      moved = moved_next keys i k c.args.self.now nothing_stored c.loop-i.self (celled keys cells) found c.loop-i.invariant.moved c.requires.ready c.take_one.new.self (celled keys c.push_reserved.new.self.items) c.requires.order c.take_one.ensures.left full;
      as_many = ap (λ (l : List Cell). length l) c.push_reserved.ensures.items ∙ length-append cells (c.take_one.result ∷ []) ∙ ap (λ n. n + 1) c.loop-i.invariant.as_many;
      room = c.push_reserved.ensures.capacity ∙ c.loop-i.invariant.room;
    }

pub returns-clause-moved : goal.returns-clause-moved
returns-clause-moved c =
    subst (λ (l : List Key). AreMoved l c.args.self.now nothing_stored c.loop-i.self (celled c.args.keys.now c.loop-i.cells.items)) (take_all c.loop-i.i c.args.keys.now c.loop-i-test.false) c.loop-i.invariant.moved
