use Rattle.std.proofs.Common.{◌≡◌, ℕ, ◌<◌, Some, slice_index_or}
use Rattle.gw_base.specs.declared.key.Key.{Key}
use Rattle.gw_board.specs.Stretches.{chain_named}
use Rattle.gw_board.proofs.chains.are_of_chain.Given as goal

-- the keys so far are of the chain
abbrev pub invariant-loop-key : goal.invariant-loop-key
invariant-loop-key l = (k : ℕ) (d : Key) → k < l.key-index → chain_named l.owners (slice_index_or l.keys k d) ≡ Some l.chain
