use Rattle.std.proofs.Common.{◌≡◌, ◌++◌, ℕ, List, Some, None, refl, subst}
use Rattle.std.proofs.lemmas.Slice.Eq.{strip_prefix_is}
use Rattle.std.proofs.lemmas.Bool.Decides.{Decides-eqb}
use Rattle.gw_text.proofs.cursor.Cursor.exact_prefix.Goals as goal

pub returns-in-Some : goal.returns-in-Some
returns-in-Some c =
    subst (λ (x : List ℕ). x ≡ c.args.bytes.now ++ c.in-Some.rest.now) c.self.view_is
    (strip_prefix_is Decides-eqb c.self.inside.rest.now c.args.bytes.now (Some c.in-Some.rest) c.in-Some.ensures.cases)

pub returns-in-None : goal.returns-in-None
returns-in-None c = (
  refl,
  subst (λ (x : List ℕ). (rest : List ℕ) → ¬ (x ≡ c.args.bytes.now ++ rest)) c.self.view_is
      (strip_prefix_is Decides-eqb c.self.inside.rest.now c.args.bytes.now None c.in-None.ensures.cases),
)
