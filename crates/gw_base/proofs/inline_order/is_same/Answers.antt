use Rattle.std.proofs.Common.{length, sym, ◌∙◌, arith}
use Rattle.std.proofs.lemmas.Bool.{le-leb}
use Rattle.gw_base.proofs.Heads.{same_short}
use Rattle.gw_base.proofs.inline_order.is_same.Goals as goal

pub returns-then-text-seen : goal.returns-then-text-seen
returns-then-text-seen c =
    let a = c.args in
    let h = c.requires in
    let same = c.if-text-other.false in
    le-leb (length a.text.now) a.seen c.if-text-seen.true
    ∙ sym (same_short a.seen a.text.now a.other.now (λ i. omega (arith, c.type_inv.text i)) (λ i. omega (arith, c.type_inv.other i)) c.if-text-seen.true same.1 (sym h.first ∙ same.0 ∙ h.second))
