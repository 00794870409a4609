use Rattle.std.proofs.lemmas.Grind.{common_steps}
use Rattle.std.proofs.Common.{◌≡◌, ◌<◌, ◌≤◌, ◌++◌, ℕ, length, set, get_or, map, take, sym, ap, ◌∙◌, arith}
use Rattle.std.proofs.lemmas.List.{append-nil, length-map, take_all, drop_all}
use Rattle.std.proofs.lemmas.List.Edits.{map_over_more}
use Rattle.std.specs.Option.{option_map}
use Rattle.gw_kept.specs.Pairs.{key_of}
use Rattle.gw_kept.specs.Rows.{keys_in}
use Rattle.gw_kept.specs.Order.{place_of}
use Rattle.gw_kept.proofs.Orders.{place_below}
use Rattle.gw_kept.proofs.Settled.{rank_keys, order_closed}
use Rattle.gw_kept.proofs.order.Order.number_anew.Goals as goal

pub bounds-places-place : goal.bounds-places-place
bounds-places-place c = grind (arith, common_steps, place_below)

pub loop-at-preserved : goal.loop-at-preserved
loop-at-preserved c =
    let old = c.args.self.now in
    let places = c.places_left-places.result in
    let inv = c.loop-at.invariant in
    let at = c.loop-at.at in
    let x = c.index.result.now in
    let f : ℕ → ℕ = λ n. get_or places (place_of old.first n) 0 in
    let l : at < length old.numbers.items = omega (arith, old.numbers.ok.0, c.len-at-end.ensures, c.loop-at-test.true) in
    let is : c.place-place.result ≡ place_of old.first x = c.place-place.ensures ∙ ap (λ (n : ℕ). place_of n x) inv.first in
    record {
      numbers = ap (λ (n : ℕ). set c.loop-at.self.numbers.items at (get_or places n 0)) is ∙ map_over_more f old.numbers.items c.loop-at.self.numbers.items at x l inv.numbers c.index.ensures;
      first = inv.first;
      room = inv.room;
    }

pub returns-clause-order : goal.returns-clause-order
returns-clause-order c =
    let row = c.args.ring.now.items in
    let old = c.args.self.now in
    let at = c.loop-at.at in
    let f : ℕ → ℕ = λ n. get_or c.places_left-places.result (place_of old.first n) 0 in
    let size : length (keys_in row) ≡ length row = length-map row (option_map key_of) in
    let whole : length old.numbers.items ≤ at = omega (arith, old.numbers.ok.0, c.len-at-end.ensures, c.loop-at-test.false) in
    order_closed (keys_in row) old.first old.numbers.items c.places_left-places.result c.loop-at.self.numbers.items c.requires (λ p l. c.places_left-places.ensures.places p (omega (arith, size, l)) ∙ sym (rank_keys row p))
    (c.loop-at.invariant.numbers ∙ ap (λ ns. map f (take at old.numbers.items) ++ ns) (drop_all at old.numbers.items whole) ∙ append-nil (map f (take at old.numbers.items)) ∙ ap (map f) (take_all at old.numbers.items whole))
