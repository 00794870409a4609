use Rattle.std.proofs.Common.{◌≡◌, ◌++◌, map, take, drop, get_or}
use Rattle.std.specs.VecDeque.{deque_capacity}
use Rattle.gw_kept.specs.Order.{place_of}
use Rattle.gw_kept.proofs.order.Order.number_anew.Given as goal

abbrev pub invariant-loop-at : goal.invariant-loop-at
invariant-loop-at l = record {
  numbers : l.self.numbers.items ≡ map (λ n. get_or l.places (place_of l.fn.self.first n) 0) (take l.at l.fn.self.numbers.items) ++ drop l.at l.fn.self.numbers.items;
  first : l.self.first ≡ l.fn.self.first;
  room : deque_capacity l.self.numbers ≡ deque_capacity l.fn.self.numbers;
}
