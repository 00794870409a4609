use Rattle.std.proofs.Common.{ℕ, Option, is_some, subst, sym, ap, ◌∙◌}
use Rattle.gw_table.specs.Rows.{Rowed}
use Rattle.std.specs.Option.{option_copied_mut}
use Rattle.gw_ctx.specs.Contexts.{ContextRecord}
use Rattle.gw_base.specs.declared.key.Key.TheVariants.{Ctx}
use Rattle.gw_table.specs.declared.place.Place.{Place}
use Rattle.gw_table.specs.Stored.{Stored, stored, visible, put_ctx_place}
use Rattle.gw_table.proofs.Exchanged.{ctx_written, ctx_seen}
use Rattle.gw_table.proofs.Places.{ctx-maps_of}
use Rattle.gw_table.proofs.Standing.{in_use-put_ctx_place}
use Rattle.gw_table.proofs.tables.Tables.write_ctx.Goals as goal
use Rattle.gw_table.specs.Found.{IsFound}
use Rattle.gw_table.specs.UndoLog.{keys_written}

-- ---- where there is a place

pub returns-in-Some-clause-found : goal.returns-in-Some-clause-found
returns-in-Some-clause-found c =
    subst (λ (o : Option ContextRecord). IsFound (keys_written c.args.writes.now) (Ctx c.args.number) o c.write-found.result)
    (ap (λ o. visible o) (ap (λ o. option_copied_mut o) (sym c.in-Some.is) ∙ c.get_mut_at.ensures.value ∙ ctx_seen c.self.inside.terms.entries c.self.inside.contexts.entries c.args.self.now c.args.number c.self.view_is)
    ∙ sym (ctx-maps_of c.args.self.now c.args.number))
    c.write-found.ensures.found

pub returns-in-Some-clause-ok : goal.returns-in-Some-clause-ok
returns-in-Some-clause-ok c =
    let w : Place ContextRecord = c.write-found.new.self in
    ctx_written c.self.inside.terms.entries c.self.inside.contexts.entries (c.get_mut_at.follows.lender w).entries c.args.number w
    (c.get_mut_at.follows.holds w (ap (λ o. is_some o) (sym c.get_mut_at.ensures.value) ∙ ap (λ o. is_some (option_copied_mut o)) c.in-Some.is))
    ∙ ap (λ (s : Stored). put_ctx_place s c.args.number w) c.self.view_is ∙ ap (λ (p : Place ContextRecord). put_ctx_place c.args.self.now c.args.number p) c.write-found.ensures.after

pub invariant_of-self : goal.invariant_of-self
invariant_of-self c =
    let now : Stored = stored c.self.inside.terms.entries c.self.inside.contexts.entries in
    let w : Place ContextRecord = c.write-found.new.self in
    in_use-put_ctx_place c.self.inside.numbers c.self.inside.slots c.set_number.new.numbers now (stored c.self.inside.terms.entries (c.get_mut_at.follows.lender w).entries) c.self.invariant
    c.args.number c.args.place c.is_here-stands.result c.set_number.ensures c.is_here-stands.ensures
    (ctx_written c.self.inside.terms.entries c.self.inside.contexts.entries (c.get_mut_at.follows.lender w).entries c.args.number w
    (c.get_mut_at.follows.holds w (ap (λ o. is_some o) (sym c.get_mut_at.ensures.value) ∙ ap (λ o. is_some (option_copied_mut o)) c.in-Some.is))
    ∙ ap (λ (p : Place ContextRecord). put_ctx_place now c.args.number p) c.write-found.ensures.after)

-- ---- where there is none

pub returns-clause-found : goal.returns-clause-found
returns-clause-found c =
    ap (λ o. visible o) (ap (λ o. option_copied_mut o) (sym c.in_default.is) ∙ c.get_mut_at.ensures.value ∙ ctx_seen c.self.inside.terms.entries c.self.inside.contexts.entries c.args.self.now c.args.number c.self.view_is)
    ∙ sym (ctx-maps_of c.args.self.now c.args.number)

pub returns-clause-ok : goal.returns-clause-ok
returns-clause-ok c =
    ctx_written c.self.inside.terms.entries c.get_mut_at.follows.lender-at-none.entries c.insert.new.self.entries c.args.number c.logged_in.result
    c.in_ok-insert.ensures.updates
    ∙ ap (λ (s : Stored). put_ctx_place s c.args.number c.logged_in.result) (ap (λ (m : Rowed ℕ (Place ContextRecord)). stored c.self.inside.terms.entries m.entries) c.get_mut_at.follows.holds-at-none ∙ c.self.view_is)
    ∙ ap (λ (p : Place ContextRecord). put_ctx_place c.args.self.now c.args.number p) c.logged_in.ensures

pub invariant_of-self-2 : goal.invariant_of-self-2
invariant_of-self-2 c =
    let now : Stored = stored c.self.inside.terms.entries c.self.inside.contexts.entries in
    in_use-put_ctx_place c.self.inside.numbers c.self.inside.slots c.set_number-2.new.numbers now (stored c.self.inside.terms.entries c.insert.new.self.entries) c.self.invariant
    c.args.number c.args.place c.is_here-stands.result c.set_number-2.ensures c.is_here-stands.ensures
    (ctx_written c.self.inside.terms.entries c.get_mut_at.follows.lender-at-none.entries c.insert.new.self.entries c.args.number c.logged_in.result
    c.in_ok-insert.ensures.updates
    ∙ ap (λ (s : Stored). put_ctx_place s c.args.number c.logged_in.result) (ap (λ (m : Rowed ℕ (Place ContextRecord)). stored c.self.inside.terms.entries m.entries) c.get_mut_at.follows.holds-at-none)
    ∙ ap (λ (p : Place ContextRecord). put_ctx_place now c.args.number p) c.logged_in.ensures)
