use Rattle.std.proofs.Common.{◌≡◌, [], ◌∷◌, None, is_some, subst, refl, sym, ap, ◌∙◌}
use Rattle.std.specs.FinMap as finite
use Rattle.gw_base.specs.declared.key.Key.TheVariants.{Ctx}
use Rattle.gw_table.specs.Stored.{Stored, stored, maps_of, put_ctx_place, ArePrepared}
use Rattle.gw_table.proofs.Exchanged.{ctx_written, ctx_seen, nothing_found}
use Rattle.gw_table.proofs.Prepared.{ctx_made, ctx_there}
use Rattle.gw_table.proofs.Standing.{marked_still}
use Rattle.gw_table.proofs.tables.Tables.prepare_ctx.Goals as goal

pub returns-in-Some-clause-ok : goal.returns-in-Some-clause-ok
returns-in-Some-clause-ok c =
    ctx_there c.args.self.now c.args.number (ap (λ o. is_some o) (sym (ctx_seen c.self.inside.terms.entries c.self.inside.contexts.entries c.args.self.now c.args.number c.self.view_is)) ∙ sym c.find.ensures ∙ ap (λ o. is_some o) c.in-Some.is)

pub returns-clause-ok : goal.returns-clause-ok
returns-clause-ok c =
    let now : Stored = c.args.self.now in
    let none : finite.get now.contexts c.args.number.0 ≡ None = nothing_found _ (ap (λ o. is_some o) (sym (ctx_seen c.self.inside.terms.entries c.self.inside.contexts.entries now c.args.number c.self.view_is)) ∙ sym c.find.ensures ∙ ap (λ o. is_some o) c.in_default.is) in
    let new = ctx_written c.self.inside.terms.entries c.self.inside.contexts.entries c.insert.new.self.entries c.args.number c.of.result c.in_ok-insert.ensures.updates ∙ ap (λ (s : Stored). put_ctx_place s c.args.number c.of.result) c.self.view_is ∙ ap (λ p. put_ctx_place now c.args.number p) c.of.ensures in
    subst (λ (s : Stored). ArePrepared (Ctx c.args.number ∷ []) now s) (sym new) (ctx_made now c.args.number none)

pub invariant_of-self-2 : goal.invariant_of-self-2
invariant_of-self-2 c =
    let now : Stored = stored c.self.inside.terms.entries c.self.inside.contexts.entries in
    let none : finite.get now.contexts c.args.number.0 ≡ None = nothing_found _ (ap (λ o. is_some o) (sym (ctx_seen c.self.inside.terms.entries c.self.inside.contexts.entries now c.args.number refl)) ∙ sym c.find.ensures ∙ ap (λ o. is_some o) c.in_default.is) in
    let new = ctx_written c.self.inside.terms.entries c.self.inside.contexts.entries c.insert.new.self.entries c.args.number c.of.result c.in_ok-insert.ensures.updates ∙ ap (λ p. put_ctx_place now c.args.number p) c.of.ensures in
    marked_still c.self.inside.numbers c.self.inside.slots (maps_of now) (maps_of (stored c.self.inside.terms.entries c.insert.new.self.entries)) (ap (λ s. maps_of s) new ∙ (ctx_made now c.args.number none).maps) c.self.invariant
