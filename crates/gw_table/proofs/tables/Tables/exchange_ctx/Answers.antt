use Rattle.std.proofs.Common.{Option, Some, is_some, sym, ap, ◌∙◌}
use Rattle.std.specs.Option.{option_copied_mut}
use Rattle.gw_ctx.specs.Contexts.{ContextRecord}
use Rattle.gw_table.specs.declared.place.Place.{Place}
use Rattle.gw_table.specs.Stored.{Stored, put_ctx_place}
use Rattle.gw_table.proofs.Exchanged.{ctx_written, ctx_seen, not_found}
use Rattle.gw_table.specs.Stored.{stored}
use Rattle.gw_table.proofs.Standing.{in_use-put_ctx_place}
use Rattle.gw_table.proofs.tables.Tables.exchange_ctx.Goals as goal

pub unreachable-requires : goal.unreachable-requires
unreachable-requires c =
    not_found _ c.requires (sym (ctx_seen c.self.inside.terms.entries c.self.inside.contexts.entries c.args.self.now c.args.number c.self.view_is) ∙ sym c.get_mut_at.ensures.value ∙ ap (λ o. option_copied_mut o) c.in-None.is)

pub returns-clause-before : goal.returns-clause-before
returns-clause-before c =
    let none : Option (Place ContextRecord) = Some c.put.result in
    ap (λ (p : Place ContextRecord). Some p) c.put.ensures.before ∙ ap (λ o. option_copied_mut o) (sym c.in-Some.is) ∙ c.get_mut_at.ensures.value
    ∙ ctx_seen c.self.inside.terms.entries c.self.inside.contexts.entries c.args.self.now c.args.number c.self.view_is

pub returns-clause-after : goal.returns-clause-after
returns-clause-after c =
    let w : Place ContextRecord = c.put.new.self in
    ctx_written c.self.inside.terms.entries c.self.inside.contexts.entries (c.get_mut_at.follows.lender w).entries c.args.number w
    (c.get_mut_at.follows.holds w (ap (λ o. is_some o) (sym c.get_mut_at.ensures.value) ∙ ap (λ o. is_some (option_copied_mut o)) c.in-Some.is))
    ∙ ap (λ (s : Stored). put_ctx_place s c.args.number w) c.self.view_is ∙ ap (λ (p : Place ContextRecord). put_ctx_place c.args.self.now c.args.number p) c.put.ensures.after

pub invariant_of-self : goal.invariant_of-self
invariant_of-self c =
    let now : Stored = stored c.self.inside.terms.entries c.self.inside.contexts.entries in
    let w : Place ContextRecord = c.put.new.self in
    in_use-put_ctx_place c.self.inside.numbers c.self.inside.slots c.set_number.new.numbers now (stored c.self.inside.terms.entries (c.get_mut_at.follows.lender w).entries) c.self.invariant
    c.args.number c.args.new c.is_here.result c.set_number.ensures c.is_here.ensures
    (ctx_written c.self.inside.terms.entries c.self.inside.contexts.entries (c.get_mut_at.follows.lender w).entries c.args.number w
    (c.get_mut_at.follows.holds w (ap (λ o. is_some o) (sym c.get_mut_at.ensures.value) ∙ ap (λ o. is_some (option_copied_mut o)) c.in-Some.is))
    ∙ ap (λ (p : Place ContextRecord). put_ctx_place now c.args.number p) c.put.ensures.after)
