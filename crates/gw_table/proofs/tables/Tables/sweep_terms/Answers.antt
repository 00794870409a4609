use Rattle.std.proofs.Common.{refl, ap, ◌∙◌}
use Rattle.std.specs.Cmp.Lexicographic.{nat_list_cmp_total}
use Rattle.std.specs.FinMap as finite
use Rattle.gw_table.specs.Stored.{Stored, stored, visible, if_visible, maps_of}
use Rattle.gw_table.proofs.Prepared.{swept, shown_same}
use Rattle.gw_table.proofs.Places.{shown_alike}
use Rattle.gw_table.proofs.Standing.{marked_still}
use Rattle.gw_table.proofs.tables.Tables.sweep_terms.Goals as goal

pub returns-clause-terms : goal.returns-clause-terms
returns-clause-terms c q = swept nat_list_cmp_total c.self.inside.terms.entries c.sweep.new.self.entries c.sweep.ensures q ∙ ap (λ (s : Stored). if_visible (finite.get s.terms q)) c.self.view_is

pub invariant_of-self : goal.invariant_of-self
invariant_of-self c =
    let now : Stored = stored c.self.inside.terms.entries c.self.inside.contexts.entries in
    let after : Stored = stored c.sweep.new.self.entries c.self.inside.contexts.entries in
    let left = swept nat_list_cmp_total c.self.inside.terms.entries c.sweep.new.self.entries c.sweep.ensures in
    marked_still c.self.inside.numbers c.self.inside.slots (maps_of now) (maps_of after) (shown_alike after now (λ t. ap (λ o. visible o) (left t) ∙ shown_same (finite.get now.terms t)) (λ n. refl)) c.self.invariant
