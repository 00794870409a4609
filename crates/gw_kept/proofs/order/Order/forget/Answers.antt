use Rattle.std.proofs.Common.{◌≡◌, ◌∷◌, ◌<◌, [], ℕ, List, length, map, get_or, ap, sym, subst, ◌∙◌, arith}
use Rattle.std.proofs.lemmas.List.{get_or_default}
use Rattle.circular_buffer.specs.Buffer.{buffer}
use Rattle.gw_kept.specs.Order.{place_of, IsOrder}
use Rattle.gw_kept.specs.Rows.{keys_in, left_of}
use Rattle.gw_kept.proofs.Freed.{IsFreed, freed_none, freed_next, freed_left, freed_keys, order_cut}
use Rattle.gw_kept.proofs.Orders.{numbers_are}
use Rattle.gw_kept.proofs.Rows.{keys_count}
use Rattle.gw_kept.proofs.order.Order.forget.Goals as goal

pub loop-at-preserved : goal.loop-at-preserved
loop-at-preserved c =
    let now = c.args.self.now in
    let inv = c.loop-at.invariant in
    let at : ℕ = c.loop-at.at in
    let within : at < length now.numbers.items = omega (arith, c.loop-at-test.true, c.span-start.ensures.bound.1, now.numbers.ok.0) in
    let is : c.place.result ≡ place_of now.first (get_or now.numbers.items at 0) = c.place.ensures ∙ ap (place_of now.first) (c.index.ensures ∙ get_or_default now.numbers.items at c.index.result.now 0 within) in
    record {
      freed = λ o. freed_next c.args.ring.now.items c.loop-at.ring.items c.free.new.ring.items now.first now.numbers.items c.span-start.result.0 at c.place.result o (inv.freed o) c.loop-at.auto.at within is (ap (λ b. b.items) c.free.ensures);
      capacity = ap (λ b. b.capacity) c.free.ensures ∙ inv.capacity;
    }

pub returns-after-loop-at-clause-left : goal.returns-after-loop-at-clause-left
returns-after-loop-at-clause-left c =
    let now = c.args.self.now in
    let row = c.args.ring.now.items in
    let o : IsOrder (keys_in row) now.first now.numbers.items = c.requires in
    let end : c.loop-at.at ≡ c.span-start.result.1 = omega (arith, c.loop-at-test.false, c.loop-at.auto.at-end, c.if-start-end.true) in
    ap (λ xs. buffer xs c.loop-at.ring.capacity)
    (freed_left c.args.mid.now c.args.range.now row c.loop-at.ring.items o.places c.span-start.result.0 c.span-start.result.1 o.sorted (c.span-start.ensures.span o)
    (omega (arith, c.span-start.ensures.bound.1, now.numbers.ok.0, numbers_are (keys_in row) now.first now.numbers.items o))
    (subst (λ (n : ℕ). IsFreed row c.loop-at.ring.items o.places c.span-start.result.0 n) end (c.loop-at.invariant.freed o).0))
    ∙ ap (λ n. buffer (map (left_of c.args.mid.now (c.args.range.now ∷ [])) row) n) c.loop-at.invariant.capacity

pub returns-after-loop-at-clause-order : goal.returns-after-loop-at-clause-order
returns-after-loop-at-clause-order c =
    let now = c.args.self.now in
    let row = c.args.ring.now.items in
    let next = c.loop-at.ring.items in
    let o : IsOrder (keys_in row) now.first now.numbers.items = c.requires in
    let end : c.loop-at.at ≡ c.span-start.result.1 = omega (arith, c.loop-at-test.false, c.loop-at.auto.at-end, c.if-start-end.true) in
    let f = c.loop-at.invariant.freed o in
    let whole : IsFreed row next o.places c.span-start.result.0 c.span-start.result.1 = subst (λ (n : ℕ). IsFreed row next o.places c.span-start.result.0 n) end f.0 in
    subst (λ (ns : List ℕ). IsOrder (keys_in next) now.first ns) (sym (c.drop-drain.ensures.items ∙ c.drain.ensures.kept))
    (order_cut (keys_in row) (keys_in next) now.first now.numbers.items c.span-start.result.0 c.span-start.result.1 o (omega (arith, c.if-start-end.true)) (omega (arith, c.span-start.ensures.bound.1, now.numbers.ok.0))
    (freed_keys row next o.places c.span-start.result.0 c.span-start.result.1 whole) (omega (arith, keys_count row, keys_count next, f.1, end)))

pub returns-else-start-end-clause-left : goal.returns-else-start-end-clause-left
returns-else-start-end-clause-left c =
    let now = c.args.self.now in
    let row = c.args.ring.now.items in
    let o : IsOrder (keys_in row) now.first now.numbers.items = c.requires in
    ap (λ xs. buffer xs c.args.ring.now.capacity)
    (freed_left c.args.mid.now c.args.range.now row row o.places c.span-start.result.0 c.span-start.result.1 o.sorted (c.span-start.ensures.span o)
    (omega (arith, c.span-start.ensures.bound.1, now.numbers.ok.0, numbers_are (keys_in row) now.first now.numbers.items o))
    (freed_none row o.places c.span-start.result.0 c.span-start.result.1 (omega (arith, c.if-start-end.false))))
