use Rattle.std.proofs.Common.{Some, ap, ◌∙◌}
use Rattle.gw_base.specs.declared.key.Key.TheVariants.{Term}
use Rattle.gw_table.specs.declared.cell.Cell.TheVariants.{OfTerm}
use Rattle.gw_table.specs.Cells.{cell_term, IsFound}
use Rattle.gw_table.specs.Maps.{term, put_term}
use Rattle.gw_table.specs.Parts.{Parted}
use Rattle.gw_table.specs.Stored.{visible}
use Rattle.gw_table.proofs.PartWrites.{found_at, stood_term, term_set, maps_term_set}
use Rattle.gw_table.proofs.part.Part.set_term.Goals as goal

found : (c : goal.After-into_entry) → IsFound c.self.inside.keys.items (Term c.args.name.now) (Some c.in-Some.i)
found c = found_at c.deref.result.now c.self.inside.keys.items (Term c.args.name.now) c.find_name.result c.in-Some.i c.deref.ensures.value c.in-Some.is c.find_name.ensures

pub invariant_of-self : goal.invariant_of-self
invariant_of-self c =
    term_set c.self.inside.keys.items c.self.inside.cells.items c.in-Some.i c.self.invariant c.args.name.now c.args.entry c.replace.new.dest
    (c.replace.ensures.after ∙ ap (λ p. OfTerm p) c.of.ensures) (found c)

pub returns-clause-before : goal.returns-clause-before
returns-clause-before c =
    c.into_entry.ensures ∙ ap (λ p. visible (Some p)) (c.into_term.ensures ∙ ap (λ x. cell_term x) (c.replace.ensures.value ∙ c.index_mut.ensures.value))
    ∙ stood_term c.self.inside.keys.items c.self.inside.cells.items c.in-Some.i c.self.invariant c.args.name.now c.index_mut.result.now (found c)
    ∙ ap (λ (p : Parted). term p.maps c.args.name.now) c.self.view_is

pub returns-clause-maps : goal.returns-clause-maps
returns-clause-maps c =
    maps_term_set c.self.inside.keys.items c.self.inside.cells.items c.in-Some.i c.self.invariant c.args.name.now c.args.entry c.replace.new.dest
    (c.replace.ensures.after ∙ ap (λ p. OfTerm p) c.of.ensures) (found c)
    ∙ ap (λ (p : Parted). put_term p.maps c.args.name.now c.args.entry) c.self.view_is
