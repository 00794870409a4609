use Rattle.std.proofs.Common.{◌≡◌, rules, ℕ, List, IfOk, ap, subst, ◌∙◌}
use Rattle.std.proofs.lemmas.Fn.{filter_same}
use Rattle.std.specs.List.{filter}
use Rattle.gw_table.specs.Maps.{is_free}
use Rattle.gw_table.proofs.part.Part.free_targets.Goals as goal

pub returns : goal.returns
returns c =
    subst (λ (l : List (List ℕ)). IfOk c.each.result (λ list. list.items ≡ l))
    (c.deref.ensures.value ∙ filter_same _ (is_free c.args.self.now.maps) _ (λ x b f' k. search rules) _ _ c.retain.ensures.filtered
    ∙ ap (filter (is_free c.args.self.now.maps)) c.in_ok-named.ensures)
    c.each.ensures
