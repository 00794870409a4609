use Rattle.std.proofs.Common.{◌≡◌, ◌≤◌, ◌<◌, ℕ, length, take, slice_index}
use Rattle.gw_kept.specs.Rows.{present}
use Rattle.gw_kept.proofs.ring.places_left.Given as goal

abbrev pub invariant-loop-at : goal.invariant-loop-at
invariant-loop-at l = record {
  long : length l.places ≡ 5120;
  few : l.left ≤ l.at;
  so_far : l.left ≡ length (present (take l.at l.ring.items));
  placed : (p : ℕ) → p < l.at → slice_index l.places p ≡ length (present (take p l.ring.items));
}
