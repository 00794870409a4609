use Rattle.std.proofs.Common.{rules, ℕ, List, Option, ap, sym, ◌∙◌}
use Rattle.std.proofs.lemmas.Fn.{filter_same}
use Rattle.std.specs.List.{filter}
use Rattle.gw_base.specs.declared.ids.CtxNum.{CtxNum}
use Rattle.gw_base.specs.declared.term_ref.TermRef.{TermRef}
use Rattle.gw_refusal.specs.Requested.{matches}
use Rattle.gw_refusal.specs.Targets.{matched, those_in, source}
use Rattle.gw_refusal.proofs.Matching.{all_match}
use Rattle.gw_refusal.proofs.named.matched.Goals as goal

pub returns-in-All : goal.returns-in-All
unfolding matched
returns-in-All c =
    let all : List (List ℕ) = those_in (source c.args.at c.args.command.now) c.args.draft.now.maps in
    c.in_ok-named.ensures ∙ ap (λ (o : Option CtxNum). those_in o c.args.draft.now.maps) c.source.ensures
    ∙ sym (all_match all) ∙ ap (λ (r : TermRef). filter (matches r) all) (sym c.in-All.is)

pub returns : goal.returns
unfolding matched
returns c =
    filter_same _ (matches c.args.command.now.term) _ (λ x b f' k. search rules) _ _ c.retain.ensures.filtered
    ∙ ap (filter (matches c.args.command.now.term)) (c.in_ok-named.ensures ∙ ap (λ (o : Option CtxNum). those_in o c.args.draft.now.maps) c.source.ensures)
