use Rattle.std.proofs.Common.{◌≡◌, ◌∙◌, ◌∷◌, [], ℕ, List, bytes_eq, ap, sym}
use Rattle.std.proofs.lemmas.Bool.Decides.{same_from_decides}
use Rattle.gw_text.specs.SpaceScan.{skip}
use Rattle.gw_term.proofs.Merges.{closes_there, closes_not}
use Rattle.gw_term.proofs.tails.is_closed.Goals as goal

pub returns-then-byte : goal.returns-then-byte
unfolding skip
returns-then-byte c =
    let left : c.lwsp.new.self ≡ skip c.args.inside.now = ap (λ (p : List ℕ × List ℕ). p.1) c.lwsp.ensures.exact ∙ ap skip c.new-cursor.ensures in
    same_from_decides c.is_empty.result (bytes_eq (skip c.args.inside.now) (125 ∷ [])) c.is_empty.ensures (closes_there (skip c.args.inside.now) c.byte.new.self (sym left ∙ c.if-byte.ensures.cases))

pub returns-else-byte : goal.returns-else-byte
unfolding skip
returns-else-byte c =
    let left : c.lwsp.new.self ≡ skip c.args.inside.now = ap (λ (p : List ℕ × List ℕ). p.1) c.lwsp.ensures.exact ∙ ap skip c.new-cursor.ensures in
    c.if-byte.false ∙ sym (ap (λ (l : List ℕ). bytes_eq l (125 ∷ [])) (sym left) ∙ closes_not c.lwsp.new.self c.if-byte.ensures.cases)
