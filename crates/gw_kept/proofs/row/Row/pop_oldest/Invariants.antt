use Rattle.std.proofs.Common.{◌≡◌, ◌≤◌, ◌+◌, length}
use Rattle.std.specs.VecDeque.{deque_capacity}
use Rattle.gw_kept.specs.Rows.{present, keys_in, places_for}
use Rattle.gw_kept.specs.Order.{IsOrder}
use Rattle.gw_kept.proofs.row.Row.pop_oldest.Given as goal

abbrev pub invariant-loop-at : goal.invariant-loop-at
invariant-loop-at l = record {
  pairs : present l.self-inside.ring.items ≡ present l.fn.self.row;
  shorter : length l.self-inside.ring.items + l._at ≡ length l.fn.self.row;
  order : IsOrder (keys_in l.self-inside.ring.items) l.self-inside.order.first l.self-inside.order.numbers.items;
  most : l.self-inside.most ≡ l.fn.self.most;
  capacity : l.self-inside.ring.capacity ≡ places_for l.self-inside.most;
  room : l.self-inside.ring.capacity ≤ deque_capacity l.self-inside.order.numbers;
}
