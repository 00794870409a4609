use Rattle.std.proofs.Common.{◌≡◌, take}
use Rattle.gw_kept.specs.Rows.{keys_in}
use Rattle.gw_kept.proofs.row.Row.keys.Given as goal

abbrev pub invariant-loop-at : goal.invariant-loop-at
invariant-loop-at l = record {
  copied : keys_in l.ring.items ≡ take l.at (keys_in l.self-inside.ring.items);
  capacity : l.ring.capacity ≡ l.places;
}
