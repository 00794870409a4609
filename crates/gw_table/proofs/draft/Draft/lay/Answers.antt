use Rattle.std.proofs.Common.{◌≡◌, List, Some, get_or, subst, sym, ap, ◌∙◌, arith}
use Rattle.std.proofs.lemmas.List.{get_or-set_other, length-set}
use Rattle.gw_base.specs.declared.key.Key.{Key}
use Rattle.gw_base.specs.Keys.{has}
use Rattle.gw_table.specs.declared.cell.Cell.{Cell}
use Rattle.gw_table.specs.Cells.{put_cell, IsFound}
use Rattle.gw_table.specs.Parts.{Parted, PartKeys, list_of, holds}
use Rattle.gw_table.proofs.Laid.{laid_next}
use Rattle.gw_table.proofs.PartWrites.{IsFilled}
use Rattle.gw_table.proofs.Prepared.{held}
use Rattle.gw_table.proofs.draft.Draft.lay.Goals as goal

pub set_cell-requires : goal.set_cell-requires
set_cell-requires c =
    let k : Key = c.key-item.result in
    let found : IsFound c.part.inside.keys.items k (Some c.loop-i.i) = subst (λ (l : List Key). IsFound l k (Some c.loop-i.i)) c.deref-key-items.ensures.value (c.loop-i-test.true, sym c.key-item.is) in
    ap (λ (p : PartKeys). holds p k) c.loop-i.invariant.keys
    ∙ c.requires k (ap (λ (p : Parted). has (list_of p.keys) k) (sym c.part.view_is) ∙ held c.part.inside.keys.items c.loop-i.i k found)

pub loop-i-preserved : goal.loop-i-preserved
loop-i-preserved c =
    let k : Key = c.key-item.result in
    let keys : List Key = c.deref-key-items.result.now in
    let filled : IsFilled keys c.part.inside.cells.items = subst (λ (l : List Key). IsFilled l c.part.inside.cells.items) (sym c.deref-key-items.ensures.value) c.part.invariant in
    let found : IsFound keys k (Some c.loop-i.i) = (c.loop-i-test.true, sym c.key-item.is) in
    let e : Cell = c.index_mut.result.now in
    let own : c.replace-cell.result ≡ get_or c.part.inside.cells.items c.loop-i.i e = c.replace-cell.ensures.value ∙ c.index_mut.ensures.value ∙ c.loop-i.invariant.rest e c.loop-i.i (omega arith) in
    record {
      keys = c.in_ok-set_cell.ensures.keys ∙ c.loop-i.invariant.keys;
      laid = laid_next keys c.part.inside.cells.items c.loop-i.i filled k e found c.args.self.now.maps c.loop-i.self.maps c.set_cell.new.self.maps c.loop-i.invariant.laid
          (c.in_ok-set_cell.ensures.maps ∙ ap (λ (x : Cell). put_cell k x c.loop-i.self.maps) own);
      rest = λ d j h. get_or-set_other c.loop-i.cells.items c.loop-i.i j c.replace-cell.new.dest d (omega arith) ∙ c.loop-i.invariant.rest d j (omega arith);
      as_many = length-set c.loop-i.cells.items c.loop-i.i c.replace-cell.new.dest ∙ c.loop-i.invariant.as_many;
    }
