use Rattle.std.proofs.Common.{Some, ap, ◌∙◌}
use Rattle.gw_base.specs.declared.key.Key.TheVariants.{Ctx}
use Rattle.gw_table.specs.declared.cell.Cell.TheVariants.{OfCtx}
use Rattle.gw_table.specs.Cells.{cell_ctx, IsFound}
use Rattle.gw_table.specs.Maps.{ctx, put_ctx}
use Rattle.gw_table.specs.Parts.{Parted}
use Rattle.gw_table.specs.Stored.{visible}
use Rattle.gw_table.proofs.PartWrites.{found_at, stood_ctx, ctx_set, maps_ctx_set}
use Rattle.gw_table.proofs.part.Part.set_ctx.Goals as goal

found : (c : goal.After-into_entry) → IsFound c.self.inside.keys.items (Ctx c.args.number) (Some c.in-Some.i)
found c = found_at c.deref.result.now c.self.inside.keys.items (Ctx c.args.number) c.find_number.result c.in-Some.i c.deref.ensures.value c.in-Some.is c.find_number.ensures

pub invariant_of-self : goal.invariant_of-self
invariant_of-self c =
    ctx_set c.self.inside.keys.items c.self.inside.cells.items c.in-Some.i c.self.invariant c.args.number c.args.entry c.replace.new.dest
    (c.replace.ensures.after ∙ ap (λ p. OfCtx p) c.of.ensures) (found c)

pub returns-clause-before : goal.returns-clause-before
returns-clause-before c =
    c.into_entry.ensures ∙ ap (λ p. visible (Some p)) (c.into_ctx.ensures ∙ ap (λ x. cell_ctx x) (c.replace.ensures.value ∙ c.index_mut.ensures.value))
    ∙ stood_ctx c.self.inside.keys.items c.self.inside.cells.items c.in-Some.i c.self.invariant c.args.number c.index_mut.result.now (found c)
    ∙ ap (λ (p : Parted). ctx p.maps c.args.number) c.self.view_is

pub returns-clause-maps : goal.returns-clause-maps
returns-clause-maps c =
    maps_ctx_set c.self.inside.keys.items c.self.inside.cells.items c.in-Some.i c.self.invariant c.args.number c.args.entry c.replace.new.dest
    (c.replace.ensures.after ∙ ap (λ p. OfCtx p) c.of.ensures) (found c)
    ∙ ap (λ (p : Parted). put_ctx p.maps c.args.number c.args.entry) c.self.view_is
