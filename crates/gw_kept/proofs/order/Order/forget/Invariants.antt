use Rattle.std.proofs.Common.{◌≡◌, ◌+◌, length}
use Rattle.gw_kept.specs.Order.{IsOrder}
use Rattle.gw_kept.specs.Rows.{keys_in, present}
use Rattle.gw_kept.proofs.Freed.{IsFreed}
use Rattle.gw_kept.proofs.order.Order.forget.Given as goal

-- from the first one on, each before this one left a gap
abbrev pub invariant-loop-at : goal.invariant-loop-at
invariant-loop-at l = record {
  freed : (o : IsOrder (keys_in l.fn.ring.items) l.self.first l.self.numbers.items) → IsFreed l.fn.ring.items l.ring.items o.places l.start l.at × (length (present l.ring.items) + l.at ≡ length (present l.fn.ring.items) + l.start);
  capacity : l.ring.capacity ≡ l.fn.ring.capacity;
}
