use Rattle.std.proofs.Common.{Option, Some, is_some, sym, ap, ◌∙◌}
use Rattle.std.specs.Option.{option_copied_mut}
use Rattle.gw_term.specs.declared.record.Termination.{Termination}
use Rattle.gw_table.specs.declared.place.Place.{Place}
use Rattle.gw_table.specs.Stored.{Stored, put_term_place}
use Rattle.gw_table.proofs.Exchanged.{term_written, term_seen, not_found}
use Rattle.gw_table.specs.Stored.{stored}
use Rattle.gw_table.proofs.Standing.{in_use-put_term_place}
use Rattle.gw_table.proofs.tables.Tables.exchange_term.Goals as goal

pub unreachable-requires : goal.unreachable-requires
unreachable-requires c =
    not_found _ c.requires (sym (term_seen c.self.inside.terms.entries c.self.inside.contexts.entries c.args.self.now c.args.name.now c.self.view_is) ∙ sym c.get_mut_at.ensures.value ∙ ap (λ o. option_copied_mut o) c.in-None.is)

pub returns-clause-before : goal.returns-clause-before
returns-clause-before c =
    let none : Option (Place Termination) = Some c.put.result in
    ap (λ (p : Place Termination). Some p) c.put.ensures.before ∙ ap (λ o. option_copied_mut o) (sym c.in-Some.is) ∙ c.get_mut_at.ensures.value
    ∙ term_seen c.self.inside.terms.entries c.self.inside.contexts.entries c.args.self.now c.args.name.now c.self.view_is

pub returns-clause-after : goal.returns-clause-after
returns-clause-after c =
    let w : Place Termination = c.put.new.self in
    term_written c.self.inside.terms.entries (c.get_mut_at.follows.lender w).entries c.self.inside.contexts.entries c.args.name.now w
    (c.get_mut_at.follows.holds w (ap (λ o. is_some o) (sym c.get_mut_at.ensures.value) ∙ ap (λ o. is_some (option_copied_mut o)) c.in-Some.is))
    ∙ ap (λ (s : Stored). put_term_place s c.args.name.now w) c.self.view_is ∙ ap (λ (p : Place Termination). put_term_place c.args.self.now c.args.name.now p) c.put.ensures.after

pub invariant_of-self : goal.invariant_of-self
invariant_of-self c =
    let now : Stored = stored c.self.inside.terms.entries c.self.inside.contexts.entries in
    let w : Place Termination = c.put.new.self in
    in_use-put_term_place c.self.inside.numbers c.self.inside.slots c.set_slot.new.slots now (stored (c.get_mut_at.follows.lender w).entries c.self.inside.contexts.entries) c.self.invariant
    c.args.name.now c.args.new c.is_here.result c.set_slot.ensures c.is_here.ensures
    (term_written c.self.inside.terms.entries (c.get_mut_at.follows.lender w).entries c.self.inside.contexts.entries c.args.name.now w
    (c.get_mut_at.follows.holds w (ap (λ o. is_some o) (sym c.get_mut_at.ensures.value) ∙ ap (λ o. is_some (option_copied_mut o)) c.in-Some.is))
    ∙ ap (λ (p : Place Termination). put_term_place now c.args.name.now p) c.put.ensures.after)
