use Rattle.std.proofs.Common.{◌≡◌, false, List, Some, subst, sym, ap, ◌∙◌}
use Rattle.gw_base.specs.Keys.{has}
use Rattle.gw_base.specs.declared.key.Key.{Key}
use Rattle.gw_base.specs.declared.key.Key.TheVariants.{Ctx}
use Rattle.gw_table.specs.declared.cell.Cell.{Cell}
use Rattle.gw_table.specs.Cells.{cell_ctx, celled, IsFound}
use Rattle.gw_table.specs.Maps.{ctx}
use Rattle.gw_table.specs.Parts.{Parted}
use Rattle.gw_table.specs.Stored.{visible}
use Rattle.gw_table.proofs.Celled.{no_ctx}
use Rattle.gw_table.proofs.PartWrites.{found_at, stood_ctx}
use Rattle.gw_table.proofs.Places.{ctx-maps_of}
use Rattle.gw_table.proofs.part.Part.ctx.Goals as goal

pub returns-in-Some : goal.returns-in-Some
returns-in-Some c =
    c.ctx.ensures ∙ ap (λ (x : Cell). visible (Some (cell_ctx x))) c.index.ensures
    ∙ stood_ctx c.self.inside.keys.items c.self.inside.cells.items c.in-Some.i c.self.invariant c.args.number c.index.result.now
    (found_at c.deref.result.now c.self.inside.keys.items (Ctx c.args.number) c.find_number.result c.in-Some.i c.deref.ensures.value c.in-Some.is c.find_number.ensures)
    ∙ ap (λ (p : Parted). ctx p.maps c.args.number) c.self.view_is

pub returns-in-None : goal.returns-in-None
returns-in-None c =
    let keys : List Key = c.self.inside.keys.items in
    let cells : List Cell = c.self.inside.cells.items in
    let k : Key = Ctx c.args.number in
    let off : has keys k ≡ false = ap (λ (l : List Key). has l k) (sym c.deref.ensures.value) ∙ subst (λ o. IsFound c.deref.result.now k o) c.in-None.is c.find_number.ensures in
    sym (ap (λ o. visible o) (no_ctx keys cells c.self.invariant.1 c.args.number off)) ∙ sym (ctx-maps_of (celled keys cells) c.args.number) ∙ ap (λ (p : Parted). ctx p.maps c.args.number) c.self.view_is
