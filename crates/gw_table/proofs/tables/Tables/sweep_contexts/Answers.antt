use Rattle.std.proofs.Common.{refl, ap, ◌∙◌}
use Rattle.std.specs.Cmp.{nat_cmp_total}
use Rattle.std.specs.FinMap as finite
use Rattle.gw_table.specs.Stored.{Stored, stored, visible, if_visible, maps_of}
use Rattle.gw_table.proofs.Prepared.{swept, shown_same}
use Rattle.gw_table.proofs.Places.{shown_alike}
use Rattle.gw_table.proofs.Standing.{marked_still}
use Rattle.gw_table.proofs.SweptAtOnce.{cleared, contexts_alike}
use Rattle.gw_table.proofs.tables.Tables.sweep_contexts.Goals as goal

-- ---- where no context stands

pub returns-then-none_stands-clause-contexts : goal.returns-then-none_stands-clause-contexts
returns-then-none_stands-clause-contexts c q =
    cleared c.self.inside.terms.entries c.self.inside.contexts.entries c.clear.new.self.entries c.clear.ensures.empty (c.none_stands.ensures c.if-none_stands.true) q
    ∙ ap (λ (s : Stored). if_visible (finite.get s.contexts q)) c.self.view_is

pub invariant_of-self : goal.invariant_of-self
invariant_of-self c =
    let now : Stored = stored c.self.inside.terms.entries c.self.inside.contexts.entries in
    let after : Stored = stored c.self.inside.terms.entries c.clear.new.self.entries in
    marked_still c.self.inside.numbers c.self.inside.slots (maps_of now) (maps_of after)
    (contexts_alike now after refl (cleared c.self.inside.terms.entries c.self.inside.contexts.entries c.clear.new.self.entries c.clear.ensures.empty (c.none_stands.ensures c.if-none_stands.true))) c.self.invariant

-- ---- where one does

pub returns-clause-contexts : goal.returns-clause-contexts
returns-clause-contexts c q =
    swept nat_cmp_total c.self.inside.contexts.entries c.sweep.new.self.entries c.sweep.ensures q
    ∙ ap (λ (s : Stored). if_visible (finite.get s.contexts q)) c.self.view_is

pub invariant_of-self-2 : goal.invariant_of-self-2
invariant_of-self-2 c =
    let now : Stored = stored c.self.inside.terms.entries c.self.inside.contexts.entries in
    let after : Stored = stored c.self.inside.terms.entries c.sweep.new.self.entries in
    let left = swept nat_cmp_total c.self.inside.contexts.entries c.sweep.new.self.entries c.sweep.ensures in
    marked_still c.self.inside.numbers c.self.inside.slots (maps_of now) (maps_of after) (shown_alike after now (λ t. refl) (λ n. ap (λ o. visible o) (left n.0) ∙ shown_same (finite.get now.contexts n.0))) c.self.invariant
