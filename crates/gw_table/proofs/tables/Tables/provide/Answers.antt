use Rattle.std.proofs.Common.{◌≡◌, subst, sym, ap, ◌∙◌, refl}
use Rattle.gw_term.specs.Record.{provisioned}
use Rattle.gw_term.specs.declared.record.Termination.{Termination}
use Rattle.gw_table.specs.declared.place.Place.TheVariants.{Here}
use Rattle.gw_table.specs.Stored.{Stored, stored, maps_of, put_term_place, AreSwept, NoneIsOut}
use Rattle.gw_table.proofs.Exchanged.{term_written}
use Rattle.gw_table.proofs.Places.{maps-put_term_place, in-put_term, swept-put_term}
use Rattle.gw_table.proofs.Standing.{marked_still, in_use-put_still}
use Rattle.std.proofs.Common.{Some}
use Rattle.gw_table.specs.Maps.{put_term}
use Rattle.gw_table.proofs.tables.Tables.provide.Goals as goal

provided : (c : goal.Joined-branch-2) → stored c.insert.new.self.entries c.self.inside.contexts.entries ≡ put_term_place c.args.self.now c.args.name (Here provisioned)
provided c =
    term_written c.self.inside.terms.entries c.insert.new.self.entries c.self.inside.contexts.entries c.args.name c.of.result c.in_ok-insert.ensures.updates
    ∙ ap (λ (s : Stored). put_term_place s c.args.name c.of.result) c.self.view_is
    ∙ ap (λ p. put_term_place c.args.self.now c.args.name p) c.of.ensures
    ∙ ap (λ (r : Termination). put_term_place c.args.self.now c.args.name (Here r)) c.provisioned.ensures

pub returns-clause-maps : goal.returns-clause-maps
returns-clause-maps c = ap (λ s. maps_of s) (provided c) ∙ maps-put_term_place c.args.self.now c.args.name (Here provisioned)

pub returns-clause-out : goal.returns-clause-out
returns-clause-out c h = subst (λ (s : Stored). NoneIsOut s) (sym (provided c)) (in-put_term c.args.self.now c.args.name (Here provisioned) refl h)

pub returns-clause-swept : goal.returns-clause-swept
returns-clause-swept c h = subst (λ (s : Stored). AreSwept s) (sym (provided c)) (swept-put_term c.args.self.now c.args.name provisioned h)

pub invariant_of-self-2 : goal.invariant_of-self-2
invariant_of-self-2 c =
    let now : Stored = stored c.self.inside.terms.entries c.self.inside.contexts.entries in
    let new = term_written c.self.inside.terms.entries c.insert.new.self.entries c.self.inside.contexts.entries c.args.name c.of.result c.in_ok-insert.ensures.updates ∙ ap (λ p. put_term_place now c.args.name p) c.of.ensures in
    marked_still c.self.inside.numbers c.self.inside.slots (put_term (maps_of now) c.args.name (Some c.provisioned.result)) (maps_of (stored c.insert.new.self.entries c.self.inside.contexts.entries)) (ap (λ s. maps_of s) new ∙ maps-put_term_place now c.args.name (Here c.provisioned.result))
    (in_use-put_still c.self.inside.numbers c.self.inside.slots (maps_of now) c.args.name (Some c.provisioned.result) (λ _. refl) c.self.invariant)
