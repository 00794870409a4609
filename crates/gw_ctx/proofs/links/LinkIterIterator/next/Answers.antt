use Rattle.std.proofs.Common.{◌≡◌, ◌∷◌, List, All, length, subst}
use Rattle.std.proofs.lemmas.List.Elements.{All-tail}
use Rattle.gw_ctx.specs.declared.pairs.Pair.{Pair}
use Rattle.gw_ctx.specs.Places.{IsWithin}
use Rattle.gw_ctx.proofs.links.LinkIterIterator.next.Goals as goal

pub invariant_of-self : goal.invariant_of-self
invariant_of-self c =
    let count = length c.self.inside.names.now in
    let all : c.self.inside.pairs.now ≡ c.in_ok-first.first.now ∷ c.in_ok-first.others.now = c.in_ok-first.ensures.cases.0 in
    All-tail (IsWithin count) c.in_ok-first.first.now c.in_ok-first.others.now (subst (λ (l : List Pair). All (IsWithin count) l) all c.self.invariant)
