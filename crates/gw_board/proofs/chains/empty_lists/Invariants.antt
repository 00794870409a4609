use Rattle.std.proofs.Common.{◌≡◌, length}
use Rattle.gw_board.proofs.chains.empty_lists.Given as goal

abbrev pub invariant-loop-chain : goal.invariant-loop-chain
invariant-loop-chain l = length l.lists.items ≡ l.chain
