use Rattle.std.proofs.Common.{ℕ, List, Some, get_or, set, take, subst, sym, ap, ◌∙◌}
use Rattle.std.proofs.lemmas.List.{take_all, length-set}
use Rattle.gw_base.specs.declared.key.Key.{Key}
use Rattle.gw_table.specs.declared.cell.Cell.{Cell}
use Rattle.gw_table.specs.Cells.{celled, out_cell, IsFound}
use Rattle.gw_table.specs.Stored.{AreMoved}
use Rattle.gw_table.proofs.Celled.{set_cell, ready_celled, with_cell_out, with_cell_here}
use Rattle.gw_table.proofs.Moved.{moved_none, ready_full}
use Rattle.gw_table.proofs.Prepared.{front_has, held, moved_next}
use Rattle.gw_table.proofs.tables.Tables.put_each.Goals as goal

pub loop-i-init : goal.loop-i-init
loop-i-init c = record { moved = moved_none (celled c.args.keys.now c.args.cells.now) c.args.self.now; as_many = c.requires.as_many }

pub put_one-requires : goal.put_one-requires
put_one-requires c =
    let keys : List Key = c.args.keys.now in
    let i : ℕ = c.loop-i.i in
    let k : Key = c.index-keys-i.result in
    ready_full (take i keys) (celled keys c.args.cells.now) c.args.self.now (celled keys c.loop-i.cells) c.loop-i.self c.loop-i.invariant.moved
    (λ x h. ready_celled keys c.args.cells.now c.requires.as_many x (front_has keys i x h)) (λ x h. c.requires.ready x (front_has keys i x h)) k
    ∙ c.requires.ready k (held keys i k (c.loop-i-test.true, sym c.index-keys-i.is))

pub loop-i-preserved : goal.loop-i-preserved
loop-i-preserved c =
    let keys : List Key = c.args.keys.now in
    let i : ℕ = c.loop-i.i in
    let k : Key = c.index-keys-i.result in
    let cells : List Cell = c.loop-i.cells in
    let old : Cell = get_or cells i c.index-cells-i.result in
    let found : IsFound keys k (Some i) = (c.loop-i-test.true, sym c.index-keys-i.is) in
    let left =
    ap (λ (x : Cell). celled keys (set cells i x)) c.put_one.ensures.left ∙ set_cell keys cells i c.requires.order c.loop-i.invariant.as_many k (out_cell k old) found
    ∙ with_cell_out (celled keys cells) k old in
    let full = c.put_one.ensures.full ∙ with_cell_here keys cells i c.requires.order c.loop-i.invariant.as_many k c.index-cells-i.result c.loop-i.self found in
    record {
      moved = moved_next keys i k (celled keys c.args.cells.now) c.args.self.now (celled keys cells) c.loop-i.self found c.loop-i.invariant.moved (ready_celled keys c.args.cells.now c.requires.as_many) (celled keys (set cells i c.put_one.new.cell)) c.put_one.new.self c.requires.order left full;
      as_many = length-set cells i c.put_one.new.cell ∙ c.loop-i.invariant.as_many;
    }

pub returns : goal.returns
returns c =
    subst (λ (l : List Key). AreMoved l (celled c.args.keys.now c.args.cells.now) c.args.self.now (celled c.args.keys.now c.loop-i.cells) c.loop-i.self) (take_all c.loop-i.i c.args.keys.now c.loop-i-test.false) c.loop-i.invariant.moved
