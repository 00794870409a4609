use Rattle.std.proofs.Common.{ℕ, List, Ok, ap, sym, ◌∙◌, rules}
use Rattle.std.proofs.lemmas.Bool.{eq-eqb}
use Rattle.gw_text.proofs.GroupSteps.{rest_ends}
use Rattle.gw_text.proofs.group.group_rest.Goals as goal

pub returns-then-next-eq0-clause-value : goal.returns-then-next-eq0-clause-value
returns-then-next-eq0-clause-value c =
    sym c.loop-next.invariant.value
    ∙ rest_ends c.args.limit c.loop-next.at c.loop-next.rest.now c.in_ok-next.next c.in_ok-next.len (sym c.in_ok-next.ensures.value) (eq-eqb c.in_ok-next.next.depth 0 (search rules))
    ∙ ap (λ (x : List ℕ). Ok x) (sym c.split_at.ensures.back)
