use Rattle.std.proofs.Common.{ℕ, List, Option, is_some, subst, sym, ap, ◌∙◌}
use Rattle.gw_table.specs.Rows.{Rowed}
use Rattle.std.specs.Option.{option_copied_mut}
use Rattle.gw_term.specs.declared.record.Termination.{Termination}
use Rattle.gw_base.specs.declared.key.Key.TheVariants.{Term}
use Rattle.gw_table.specs.declared.place.Place.{Place}
use Rattle.gw_table.specs.Stored.{Stored, stored, visible, put_term_place}
use Rattle.gw_table.proofs.Exchanged.{term_written, term_seen}
use Rattle.gw_table.proofs.Places.{term-maps_of}
use Rattle.gw_table.proofs.Standing.{in_use-put_term_place}
use Rattle.gw_table.proofs.tables.Tables.write_term.Goals as goal
use Rattle.gw_table.specs.Found.{IsFound}
use Rattle.gw_table.specs.UndoLog.{keys_written}

-- ---- where there is a place

pub returns-in-Some-clause-found : goal.returns-in-Some-clause-found
returns-in-Some-clause-found c =
    subst (λ (o : Option Termination). IsFound (keys_written c.args.writes.now) (Term c.args.name.now) o c.write-found.result)
    (ap (λ o. visible o) (ap (λ o. option_copied_mut o) (sym c.in-Some.is) ∙ c.get_mut_at.ensures.value ∙ term_seen c.self.inside.terms.entries c.self.inside.contexts.entries c.args.self.now c.args.name.now c.self.view_is)
    ∙ sym (term-maps_of c.args.self.now c.args.name.now))
    c.write-found.ensures.found

pub returns-in-Some-clause-ok : goal.returns-in-Some-clause-ok
returns-in-Some-clause-ok c =
    let w : Place Termination = c.write-found.new.self in
    term_written c.self.inside.terms.entries (c.get_mut_at.follows.lender w).entries c.self.inside.contexts.entries c.args.name.now w
    (c.get_mut_at.follows.holds w (ap (λ o. is_some o) (sym c.get_mut_at.ensures.value) ∙ ap (λ o. is_some (option_copied_mut o)) c.in-Some.is))
    ∙ ap (λ (s : Stored). put_term_place s c.args.name.now w) c.self.view_is ∙ ap (λ (p : Place Termination). put_term_place c.args.self.now c.args.name.now p) c.write-found.ensures.after

pub invariant_of-self : goal.invariant_of-self
invariant_of-self c =
    let now : Stored = stored c.self.inside.terms.entries c.self.inside.contexts.entries in
    let w : Place Termination = c.write-found.new.self in
    in_use-put_term_place c.self.inside.numbers c.self.inside.slots c.set_slot.new.slots now (stored (c.get_mut_at.follows.lender w).entries c.self.inside.contexts.entries) c.self.invariant
    c.args.name.now c.args.place c.is_here-stands.result c.set_slot.ensures c.is_here-stands.ensures
    (term_written c.self.inside.terms.entries (c.get_mut_at.follows.lender w).entries c.self.inside.contexts.entries c.args.name.now w
    (c.get_mut_at.follows.holds w (ap (λ o. is_some o) (sym c.get_mut_at.ensures.value) ∙ ap (λ o. is_some (option_copied_mut o)) c.in-Some.is))
    ∙ ap (λ (p : Place Termination). put_term_place now c.args.name.now p) c.write-found.ensures.after)

-- ---- where there is none

pub returns-clause-found : goal.returns-clause-found
returns-clause-found c =
    ap (λ o. visible o) (ap (λ o. option_copied_mut o) (sym c.in_default.is) ∙ c.get_mut_at.ensures.value ∙ term_seen c.self.inside.terms.entries c.self.inside.contexts.entries c.args.self.now c.args.name.now c.self.view_is)
    ∙ sym (term-maps_of c.args.self.now c.args.name.now)

pub returns-clause-ok : goal.returns-clause-ok
returns-clause-ok c =
    term_written c.get_mut_at.follows.lender-at-none.entries c.insert.new.self.entries c.self.inside.contexts.entries c.args.name.now c.logged_in.result
    c.in_ok-insert.ensures.updates
    ∙ ap (λ (s : Stored). put_term_place s c.args.name.now c.logged_in.result) (ap (λ (m : Rowed (List ℕ) (Place Termination)). stored m.entries c.self.inside.contexts.entries) c.get_mut_at.follows.holds-at-none ∙ c.self.view_is)
    ∙ ap (λ (p : Place Termination). put_term_place c.args.self.now c.args.name.now p) c.logged_in.ensures

pub invariant_of-self-2 : goal.invariant_of-self-2
invariant_of-self-2 c =
    let now : Stored = stored c.self.inside.terms.entries c.self.inside.contexts.entries in
    in_use-put_term_place c.self.inside.numbers c.self.inside.slots c.set_slot-2.new.slots now (stored c.insert.new.self.entries c.self.inside.contexts.entries) c.self.invariant
    c.args.name.now c.args.place c.is_here-stands.result c.set_slot-2.ensures c.is_here-stands.ensures
    (term_written c.get_mut_at.follows.lender-at-none.entries c.insert.new.self.entries c.self.inside.contexts.entries c.args.name.now c.logged_in.result
    c.in_ok-insert.ensures.updates
    ∙ ap (λ (s : Stored). put_term_place s c.args.name.now c.logged_in.result) (ap (λ (m : Rowed (List ℕ) (Place Termination)). stored m.entries c.self.inside.contexts.entries) c.get_mut_at.follows.holds-at-none)
    ∙ ap (λ (p : Place Termination). put_term_place now c.args.name.now p) c.logged_in.ensures)
