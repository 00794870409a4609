use Rattle.std.proofs.Common.{◌∷◌, [], length, map, take, get_or, sym, ap, subst, ◌∙◌, arith}
use Rattle.std.proofs.lemmas.List.{get_or_default, take_all}
use Rattle.gw_msg.specs.declared.message.AckRange.{AckRange}
use Rattle.gw_kept.specs.Pairs.{IsBounded}
use Rattle.gw_kept.specs.Rows.{Gapped, present, kept_in, left_of}
use Rattle.gw_kept.proofs.Forgetting.{left_by_none, left_more, few_left_of, present_left}
use Rattle.gw_kept.proofs.Rows.{bounded_few}
use Rattle.gw_kept.proofs.row.Row.forget.Goals as goal

pub loop-range-init : goal.loop-range-init
loop-range-init c =
    let now = c.args.self.now in
    record {
      left = ap (λ g. g.row) c.self.view_is ∙ sym (left_by_none c.args.mid.now now.row);
      order = c.self.invariant.1;
      most = ap (λ g. g.most) c.self.view_is;
      capacity = c.self.invariant.2;
      room = c.self.invariant.3;
      bounded = subst (λ (g : Gapped). IsBounded (kept_in g)) c.self.view_is c.self.invariant.0;
    }

pub loop-range-preserved : goal.loop-range-preserved
loop-range-preserved c =
    let now = c.args.self.now in
    let mid = c.args.mid.now in
    let ranges = c.args.ranges.now in
    let i = c.loop-range.range-index in
    let inv = c.loop-range.invariant in
    let range : AckRange = get_or ranges i (record { first = 0; last = 0 }) in
    let read = get_or_default ranges i (record { first = 0; last = 0 }) range c.loop-range-test.true in
    record {
      left = ap (λ b. b.items) c.forget.ensures.left ∙ ap (map (left_of mid (range ∷ []))) inv.left ∙ left_more mid ranges i range now.row c.loop-range-test.true read;
      order = c.forget.ensures.order;
      most = inv.most;
      capacity = ap (λ b. b.capacity) c.forget.ensures.left ∙ inv.capacity;
      room = omega (arith, ap (λ b. b.capacity) c.forget.ensures.left, c.forget.ensures.room, inv.room);
      bounded = inv.bounded;
    }

pub invariant_of-self : goal.invariant_of-self
invariant_of-self c =
    let now = c.args.self.now in
    let si = c.loop-range.self-inside in
    let inv = c.loop-range.invariant in
    let ranges = take c.loop-range.range-index c.args.ranges.now in (
      bounded_few now si.ring.items si.most inv.bounded (omega (arith, ap (λ r. length (present r)) inv.left, few_left_of c.args.mid.now ranges now.row)) inv.most,
      inv.order,
      inv.capacity,
      inv.room,
    )

pub returns : goal.returns
returns c = grind (arith, take_all, present_left)
