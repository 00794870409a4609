use Rattle.std.proofs.Common.{◌≡◌, [], ◌∷◌, None, is_some, subst, refl, sym, ap, ◌∙◌}
use Rattle.std.specs.FinMap as finite
use Rattle.gw_base.specs.declared.key.Key.TheVariants.{Term}
use Rattle.gw_table.specs.Stored.{Stored, stored, maps_of, put_term_place, ArePrepared}
use Rattle.gw_table.proofs.Exchanged.{term_written, term_seen, nothing_found}
use Rattle.gw_table.proofs.Prepared.{term_made, term_there}
use Rattle.gw_table.proofs.Standing.{marked_still}
use Rattle.gw_table.proofs.tables.Tables.prepare_term.Goals as goal

pub returns-in-Some-clause-ok : goal.returns-in-Some-clause-ok
returns-in-Some-clause-ok c =
    term_there c.args.self.now c.args.name (ap (λ o. is_some o) (sym (term_seen c.self.inside.terms.entries c.self.inside.contexts.entries c.args.self.now c.args.name c.self.view_is)) ∙ sym c.find.ensures ∙ ap (λ o. is_some o) c.in-Some.is)

pub returns-clause-ok : goal.returns-clause-ok
returns-clause-ok c =
    let now : Stored = c.args.self.now in
    let none : finite.get now.terms c.args.name ≡ None = nothing_found _ (ap (λ o. is_some o) (sym (term_seen c.self.inside.terms.entries c.self.inside.contexts.entries now c.args.name c.self.view_is)) ∙ sym c.find.ensures ∙ ap (λ o. is_some o) c.in_default.is) in
    let new = term_written c.self.inside.terms.entries c.insert.new.self.entries c.self.inside.contexts.entries c.args.name c.of.result c.in_ok-insert.ensures.updates ∙ ap (λ (s : Stored). put_term_place s c.args.name c.of.result) c.self.view_is ∙ ap (λ p. put_term_place now c.args.name p) c.of.ensures in
    subst (λ (s : Stored). ArePrepared (Term c.args.name ∷ []) now s) (sym new) (term_made now c.args.name none)

pub invariant_of-self-2 : goal.invariant_of-self-2
invariant_of-self-2 c =
    let now : Stored = stored c.self.inside.terms.entries c.self.inside.contexts.entries in
    let none : finite.get now.terms c.args.name ≡ None = nothing_found _ (ap (λ o. is_some o) (sym (term_seen c.self.inside.terms.entries c.self.inside.contexts.entries now c.args.name refl)) ∙ sym c.find.ensures ∙ ap (λ o. is_some o) c.in_default.is) in
    let new = term_written c.self.inside.terms.entries c.insert.new.self.entries c.self.inside.contexts.entries c.args.name c.of.result c.in_ok-insert.ensures.updates ∙ ap (λ p. put_term_place now c.args.name p) c.of.ensures in
    marked_still c.self.inside.numbers c.self.inside.slots (maps_of now) (maps_of (stored c.insert.new.self.entries c.self.inside.contexts.entries)) (ap (λ s. maps_of s) new ∙ (term_made now c.args.name none).maps) c.self.invariant
