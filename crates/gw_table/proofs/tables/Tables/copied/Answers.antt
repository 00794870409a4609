use Rattle.std.proofs.Common.{◌≡◌, List, map, subst, sym, ap, ◌∙◌}
use Rattle.std.proofs.lemmas.List.{take_all}
use Rattle.gw_base.specs.declared.key.Key.{Key}
use Rattle.gw_table.specs.declared.cell.Cell.{Cell}
use Rattle.gw_table.specs.Cells.{celled, visible_cell}
use Rattle.gw_table.specs.Maps.{Maps}
use Rattle.gw_table.specs.Stored.{maps_of}
use Rattle.gw_table.proofs.Copied.{copies_fill, maps_copied}
use Rattle.gw_table.proofs.PartWrites.{IsFilled}
use Rattle.gw_table.proofs.tables.Tables.copied.Goals as goal

pub invariant_of-result : goal.invariant_of-result
invariant_of-result c =
    let m : Maps = maps_of c.args.self.now in
    let cells : c.loop-key.cells.items ≡ map (visible_cell m) c.args.keys.items = c.loop-key.invariant ∙ ap (λ (l : List Key). map (visible_cell m) l) (take_all c.loop-key.key-index c.deref-key-items.result.now c.loop-key-test.false ∙ c.deref-key-items.ensures.value) in
    subst (λ (l : List Cell). IsFilled c.args.keys.items l) (sym cells) (copies_fill m c.args.keys.items c.requires)

pub returns-clause-maps : goal.returns-clause-maps
returns-clause-maps c =
    let m : Maps = maps_of c.args.self.now in
    let cells : c.loop-key.cells.items ≡ map (visible_cell m) c.args.keys.items = c.loop-key.invariant ∙ ap (λ (l : List Key). map (visible_cell m) l) (take_all c.loop-key.key-index c.deref-key-items.result.now c.loop-key-test.false ∙ c.deref-key-items.ensures.value) in
    ap (λ (l : List Cell). maps_of (celled c.args.keys.items l)) cells ∙ maps_copied m c.args.keys.items
