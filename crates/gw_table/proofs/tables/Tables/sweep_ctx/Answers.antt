use Rattle.std.proofs.Common.{[], ◌∷◌, subst, sym, ap, ◌∙◌}
use Rattle.std.specs.Cmp.{nat_cmp_total}
use Rattle.std.specs.FinMap as finite
use Rattle.gw_base.proofs.Views.{seen}
use Rattle.gw_base.specs.declared.key.Key.TheVariants.{Ctx}
use Rattle.gw_table.specs.Stored.{Stored, is_vacant, drop_ctx_place, WereSwept}
use Rattle.gw_table.proofs.Exchanged.{ctx_dropped}
use Rattle.gw_table.proofs.Swept.{ctx_gone, ctx_kept}
use Rattle.gw_table.proofs.tables.Tables.sweep_ctx.Goals.{in-Some+in-Here-1, in-Some+in-Empty-1, in-None-1}
use Rattle.gw_table.proofs.Standing.{marked_still}
use Rattle.std.proofs.Common.{◌≡◌, true}
use Rattle.gw_table.specs.Stored.{stored, maps_of}
use Rattle.gw_table.proofs.tables.Tables.sweep_ctx.Goals as goal

pub returns-then-is_vacant : goal.returns-then-is_vacant
returns-then-is_vacant c =
    let now : Stored = c.args.self.now in
    let new = ctx_dropped c.self.inside.terms.entries c.self.inside.contexts.entries c.remove.new.self.entries c.args.number c.remove.ensures.updates ∙ ap (λ (s : Stored). drop_ctx_place s c.args.number) c.self.view_is in
    let done : WereSwept (Ctx c.args.number ∷ []) now (drop_ctx_place now c.args.number) = ctx_gone now c.args.number (sym (c.is_vacant.ensures ∙ ap (λ o. is_vacant o) (c.place_at.ensures ∙ c.get_at.ensures ∙ sym (seen nat_cmp_total c.self.inside.contexts.entries c.args.number.0)) ∙ ap (λ (s : Stored). is_vacant (finite.get s.contexts c.args.number.0)) c.self.view_is) ∙ c.if-is_vacant.true) in
    elim c.match-remove.branch [
      | in-Some+in-Here-1 w ↦ subst (λ (s : Stored). WereSwept (Ctx c.args.number ∷ []) now s) (sym (w.self-is ∙ new)) done
      | in-Some+in-Empty-1 w ↦ subst (λ (s : Stored). WereSwept (Ctx c.args.number ∷ []) now s) (sym (w.self-is ∙ new)) done
      | in-None-1 w ↦ subst (λ (s : Stored). WereSwept (Ctx c.args.number ∷ []) now s) (sym (w.self-is ∙ new)) done
    ]

pub returns-else-is_vacant : goal.returns-else-is_vacant
returns-else-is_vacant c = ctx_kept c.args.self.now c.args.number c.requires (sym (c.is_vacant.ensures ∙ ap (λ o. is_vacant o) (c.place_at.ensures ∙ c.get_at.ensures ∙ sym (seen nat_cmp_total c.self.inside.contexts.entries c.args.number.0)) ∙ ap (λ (s : Stored). is_vacant (finite.get s.contexts c.args.number.0)) c.self.view_is) ∙ c.if-is_vacant.false)

pub invariant_of-self-then-is_vacant-2 : goal.invariant_of-self-then-is_vacant-2
invariant_of-self-then-is_vacant-2 c =
    let now : Stored = stored c.self.inside.terms.entries c.self.inside.contexts.entries in
    let vacant : is_vacant (finite.get now.contexts c.args.number.0) ≡ true = sym (c.is_vacant.ensures ∙ ap (λ o. is_vacant o) (c.place_at.ensures ∙ c.get_at.ensures ∙ sym (seen nat_cmp_total c.self.inside.contexts.entries c.args.number.0))) ∙ c.if-is_vacant.true in
    let new = ctx_dropped c.self.inside.terms.entries c.self.inside.contexts.entries c.remove.new.self.entries c.args.number c.remove.ensures.updates in
    marked_still c.self.inside.numbers c.self.inside.slots (maps_of now) (maps_of (stored c.self.inside.terms.entries c.remove.new.self.entries)) (ap (λ s. maps_of s) new ∙ (ctx_gone now c.args.number vacant).maps) c.self.invariant
