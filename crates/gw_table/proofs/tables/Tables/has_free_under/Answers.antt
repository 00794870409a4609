use Rattle.std.proofs.Common.{ℕ, nat_eq, Bool, List, sym, ap, ◌∙◌}
use Rattle.std.specs.List.{list_any, starts_with}
use Rattle.gw_table.proofs.FreeNames.{Named, free_here, any_free, free_first}
use Rattle.gw_table.proofs.tables.Tables.has_free_under.Goals as goal

pub returns-then-begins_with : goal.returns-then-begins_with
returns-then-begins_with c =
    let p : List ℕ → Bool = λ t. starts_with nat_eq t c.args.prefix.now in
    free_first p c.in-Some.name.now c.in-Some.row.now c.next.new.self (sym c.if-is_free_at.ensures) (sym c.if-begins_with.ensures)
    ∙ ap (λ (l : List Named). list_any p (free_here l)) (sym c.in-Some.ensures.steps) ∙ c.loop-name.invariant
    ∙ ap (λ (l : List Named). list_any p (free_here l)) c.into_iter-name-iterator.ensures.into_iter_gives.0
    ∙ any_free p c.self.inside.terms.entries c.self.inside.contexts.entries c.args.self.now c.into_iter-name-iterator.ensures.into_iter_gives.1 c.self.view_is

pub returns : goal.returns
returns c =
    let p : List ℕ → Bool = λ t. starts_with nat_eq t c.args.prefix.now in
    ap (λ (l : List Named). list_any p (free_here l)) (sym c.in-None.ensures.steps.0) ∙ c.loop-name.invariant
    ∙ ap (λ (l : List Named). list_any p (free_here l)) c.into_iter-name-iterator.ensures.into_iter_gives.0
    ∙ any_free p c.self.inside.terms.entries c.self.inside.contexts.entries c.args.self.now c.into_iter-name-iterator.ensures.into_iter_gives.1 c.self.view_is
