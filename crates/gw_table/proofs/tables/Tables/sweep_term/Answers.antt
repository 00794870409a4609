use Rattle.std.proofs.Common.{[], ◌∷◌, subst, sym, ap, ◌∙◌}
use Rattle.std.specs.Cmp.Lexicographic.{nat_list_cmp_total}
use Rattle.std.specs.FinMap as finite
use Rattle.gw_base.proofs.Views.{seen}
use Rattle.gw_base.specs.declared.key.Key.TheVariants.{Term}
use Rattle.gw_table.specs.Stored.{Stored, is_vacant, drop_term_place, WereSwept}
use Rattle.gw_table.proofs.Exchanged.{term_dropped}
use Rattle.gw_table.proofs.Swept.{term_gone, term_kept}
use Rattle.gw_table.proofs.tables.Tables.sweep_term.Goals.{in-Some+in-Here-1, in-Some+in-Empty-1, in-None-1}
use Rattle.std.proofs.Common.{◌≡◌, true}
use Rattle.gw_table.specs.Stored.{stored, maps_of}
use Rattle.gw_table.proofs.Standing.{marked_still}
use Rattle.gw_table.proofs.tables.Tables.sweep_term.Goals as goal

pub returns-then-is_vacant : goal.returns-then-is_vacant
returns-then-is_vacant c =
    let now : Stored = c.args.self.now in
    let new = term_dropped c.self.inside.terms.entries c.remove.new.self.entries c.self.inside.contexts.entries c.args.name.now c.remove.ensures.updates ∙ ap (λ (s : Stored). drop_term_place s c.args.name.now) c.self.view_is in
    let done : WereSwept (Term c.args.name.now ∷ []) now (drop_term_place now c.args.name.now) = term_gone now c.args.name.now (sym (c.is_vacant.ensures ∙ ap (λ o. is_vacant o) (c.place_at.ensures ∙ c.get_at.ensures ∙ sym (seen nat_list_cmp_total c.self.inside.terms.entries c.args.name.now)) ∙ ap (λ (s : Stored). is_vacant (finite.get s.terms c.args.name.now)) c.self.view_is) ∙ c.if-is_vacant.true) in
    elim c.match-remove.branch [
      | in-Some+in-Here-1 w ↦ subst (λ (s : Stored). WereSwept (Term c.args.name.now ∷ []) now s) (sym (w.self-is ∙ new)) done
      | in-Some+in-Empty-1 w ↦ subst (λ (s : Stored). WereSwept (Term c.args.name.now ∷ []) now s) (sym (w.self-is ∙ new)) done
      | in-None-1 w ↦ subst (λ (s : Stored). WereSwept (Term c.args.name.now ∷ []) now s) (sym (w.self-is ∙ new)) done
    ]

pub returns-else-is_vacant : goal.returns-else-is_vacant
returns-else-is_vacant c = term_kept c.args.self.now c.args.name.now c.requires (sym (c.is_vacant.ensures ∙ ap (λ o. is_vacant o) (c.place_at.ensures ∙ c.get_at.ensures ∙ sym (seen nat_list_cmp_total c.self.inside.terms.entries c.args.name.now)) ∙ ap (λ (s : Stored). is_vacant (finite.get s.terms c.args.name.now)) c.self.view_is) ∙ c.if-is_vacant.false)

pub invariant_of-self-then-is_vacant-2 : goal.invariant_of-self-then-is_vacant-2
invariant_of-self-then-is_vacant-2 c =
    let now : Stored = stored c.self.inside.terms.entries c.self.inside.contexts.entries in
    let vacant : is_vacant (finite.get now.terms c.args.name.now) ≡ true = sym (c.is_vacant.ensures ∙ ap (λ o. is_vacant o) (c.place_at.ensures ∙ c.get_at.ensures ∙ sym (seen nat_list_cmp_total c.self.inside.terms.entries c.args.name.now))) ∙ c.if-is_vacant.true in
    let new = term_dropped c.self.inside.terms.entries c.remove.new.self.entries c.self.inside.contexts.entries c.args.name.now c.remove.ensures.updates in
    marked_still c.self.inside.numbers c.self.inside.slots (maps_of now) (maps_of (stored c.remove.new.self.entries c.self.inside.contexts.entries)) (ap (λ s. maps_of s) new ∙ (term_gone now c.args.name.now vacant).maps) c.self.invariant
