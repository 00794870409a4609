use Rattle.std.proofs.Common.{◌≡◌, List, subst, sym, ◌∙◌}
use Rattle.std.proofs.lemmas.List.{take_all}
use Rattle.gw_base.specs.declared.key.Key.{Key}
use Rattle.gw_table.specs.declared.cell.Cell.{Cell}
use Rattle.gw_table.specs.Cells.{celled}
use Rattle.gw_table.specs.Parts.{Parted, Only}
use Rattle.gw_table.specs.Stored.{maps_of}
use Rattle.gw_table.proofs.PartWrites.{IsFilled}
use Rattle.gw_table.proofs.part.Part.copy.Goals as goal

pub invariant_of-result : goal.invariant_of-result
invariant_of-result c =
    let keys : c.in_ok-keys.keys.items ≡ c.self.inside.keys.items = c.in_ok-keys.ensures.items ∙ c.deref.ensures.value in
    let cells : c.loop-cell.cells.items ≡ c.self.inside.cells.items = c.loop-cell.invariant ∙ take_all c.loop-cell.cell-index c.deref-cell-items.result.now c.loop-cell-test.false ∙ c.deref-cell-items.ensures.value in
    subst (λ (l : List Key). IsFilled l c.loop-cell.cells.items) (sym keys) (subst (λ (l : List Cell). IsFilled c.self.inside.keys.items l) (sym cells) c.self.invariant)

pub returns : goal.returns
returns c =
    let keys : c.in_ok-keys.keys.items ≡ c.self.inside.keys.items = c.in_ok-keys.ensures.items ∙ c.deref.ensures.value in
    let cells : c.loop-cell.cells.items ≡ c.self.inside.cells.items = c.loop-cell.invariant ∙ take_all c.loop-cell.cell-index c.deref-cell-items.result.now c.loop-cell-test.false ∙ c.deref-cell-items.ensures.value in
    (λ i. let p : Parted = record { keys = Only (keys i); maps = maps_of (celled (keys i) (cells i)) } in p) ∙ c.self.view_is
