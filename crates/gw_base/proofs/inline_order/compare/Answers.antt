use Rattle.std.proofs.Common.{◌≡◌, sym, ◌∙◌, arith}
use Rattle.gw_base.proofs.Heads.{head_less, head_more, same_head}
use Rattle.gw_base.proofs.inline_order.compare.Goals as goal

pub returns-then-head-other_head : goal.returns-then-head-other_head
returns-then-head-other_head c =
    let h = c.requires in
    sym (head_less c.args.seen c.args.text.now c.args.other.now (λ i. omega (arith, c.type_inv.text i)) (λ i. omega (arith, c.type_inv.other i)) (omega (arith, h.first, h.second, c.if-head-other_head.true)))

pub returns-then-other_head-head : goal.returns-then-other_head-head
returns-then-other_head-head c =
    let h = c.requires in
    sym (head_more c.args.seen c.args.text.now c.args.other.now (λ i. omega (arith, c.type_inv.text i)) (λ i. omega (arith, c.type_inv.other i)) (omega (arith, h.first, h.second, c.if-other_head-head.true)))

pub returns-then-other-seen : goal.returns-then-other-seen
returns-then-other-seen c =
    let h = c.requires in
    let same : c.args.head ≡ c.args.other_head = omega (arith, c.if-head-other_head.false, c.if-other_head-head.false) in
    c.cmp.ensures ∙ sym (same_head c.args.seen c.args.text.now c.args.other.now (λ i. omega (arith, c.type_inv.text i)) (λ i. omega (arith, c.type_inv.other i)) c.if-text-seen.true c.if-other-seen.true (sym h.first ∙ same ∙ h.second))
