use Rattle.std.proofs.Common.{◌≡◌, ℕ, ◌<◌, length}
use Rattle.std.specs.Prelude.{slice_index}
use Rattle.gw_base.specs.Keys.{Among}
use Rattle.gw_board.specs.Stretches.{collected_at, keys_at}
use Rattle.gw_board.proofs.chains.collected.Given as goal

-- the keys of the places so far are among those of their chains
abbrev pub invariant-loop-place : goal.invariant-loop-place
invariant-loop-place l = record {
  gathered : (i : ℕ) → i < l.place → Among (keys_at l.footprints i) (collected_at l.lists.items (slice_index l.chains i));
  len : length l.lists.items ≡ l.count;
}
