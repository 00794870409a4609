use Rattle.std.proofs.Common.{◌≡◌, ◌≤◌, map, take}
use Rattle.std.specs.VecDeque.{deque_capacity}
use Rattle.gw_kept.specs.Pairs.{IsBounded}
use Rattle.gw_kept.specs.Rows.{kept_in, keys_in, left_of, places_for}
use Rattle.gw_kept.specs.Order.{IsOrder}
use Rattle.gw_kept.proofs.row.Row.forget.Given as goal

abbrev pub invariant-loop-range : goal.invariant-loop-range
invariant-loop-range l = record {
  left : l.self-inside.ring.items ≡ map (left_of l.mid (take l.range-index l.ranges)) l.fn.self.row;
  order : IsOrder (keys_in l.self-inside.ring.items) l.self-inside.order.first l.self-inside.order.numbers.items;
  most : l.self-inside.most ≡ l.fn.self.most;
  capacity : l.self-inside.ring.capacity ≡ places_for l.self-inside.most;
  room : l.self-inside.ring.capacity ≤ deque_capacity l.self-inside.order.numbers;
  bounded : IsBounded (kept_in l.fn.self);
}
