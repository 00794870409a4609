use Rattle.std.proofs.Common.{◌≡◌, false, List, Some, subst, sym, ap, ◌∙◌}
use Rattle.gw_base.specs.Keys.{has}
use Rattle.gw_base.specs.declared.key.Key.{Key}
use Rattle.gw_base.specs.declared.key.Key.TheVariants.{Term}
use Rattle.gw_table.specs.declared.cell.Cell.{Cell}
use Rattle.gw_table.specs.Cells.{cell_term, celled, IsFound}
use Rattle.gw_table.specs.Maps.{term}
use Rattle.gw_table.specs.Parts.{Parted}
use Rattle.gw_table.specs.Stored.{visible}
use Rattle.gw_table.proofs.Celled.{no_term}
use Rattle.gw_table.proofs.PartWrites.{found_at, stood_term}
use Rattle.gw_table.proofs.Places.{term-maps_of}
use Rattle.gw_table.proofs.part.Part.term.Goals as goal

pub returns-in-Some : goal.returns-in-Some
returns-in-Some c =
    c.term.ensures ∙ ap (λ (x : Cell). visible (Some (cell_term x))) c.index.ensures
    ∙ stood_term c.self.inside.keys.items c.self.inside.cells.items c.in-Some.i c.self.invariant c.args.name.now c.index.result.now
    (found_at c.deref.result.now c.self.inside.keys.items (Term c.args.name.now) c.find_name.result c.in-Some.i c.deref.ensures.value c.in-Some.is c.find_name.ensures)
    ∙ ap (λ (p : Parted). term p.maps c.args.name.now) c.self.view_is

pub returns-in-None : goal.returns-in-None
returns-in-None c =
    let keys : List Key = c.self.inside.keys.items in
    let cells : List Cell = c.self.inside.cells.items in
    let k : Key = Term c.args.name.now in
    let off : has keys k ≡ false = ap (λ (l : List Key). has l k) (sym c.deref.ensures.value) ∙ subst (λ o. IsFound c.deref.result.now k o) c.in-None.is c.find_name.ensures in
    sym (ap (λ o. visible o) (no_term keys cells c.self.invariant.1 c.args.name.now off)) ∙ sym (term-maps_of (celled keys cells) c.args.name.now) ∙ ap (λ (p : Parted). term p.maps c.args.name.now) c.self.view_is
