use Rattle.std.proofs.Common.{◌≡◌, ℕ, ◌+◌, List, ◌∷◌, drop, bytes_eq, sym, ap, ◌∙◌, arith}
use Rattle.gw_base.proofs.NameTests.{same_name}
use Rattle.gw_table.proofs.Folding.{rest_of}
use Rattle.gw_cmd.proofs.targets.are_all.Goals as goal

pub loop-place-preserved : goal.loop-place-preserved
loop-place-preserved c = λ rests.
    let i : ℕ = c.loop-place.place in
    let members : List (List ℕ) = c.as_slice-members.result.now in
    let t : List ℕ = c.index-members-place.result in
    let x : List ℕ = c.index-named-place.result in
    let same : t ≡ x = same_name t x (ap (bytes_eq t) (sym c.name.ensures) ∙ sym c.eq.ensures ∙ c.if-not-eq.false) in
    c.loop-place.invariant
    (rest_of members i t t c.loop-place-test.true c.index-members-place.is
    ∙ ap (λ (l : List (List ℕ)). t ∷ l) rests ∙ ap (λ (y : List ℕ). y ∷ drop (i + 1) c.args.named.now) same
    ∙ sym (rest_of c.args.named.now i x x (omega (arith, c.loop-place-test.true, c.if-members-named.false)) c.index-named-place.is))
