use Rattle.std.proofs.Common.{◌≡◌, ℕ, ◌<◌, Some}
use Rattle.std.specs.List.{All}
use Rattle.gw_board.specs.Stretches.{chain_named, keys_at}
use Rattle.gw_board.proofs.chains.are_apart.Given as goal

-- the keys of the chains so far are of these alone
abbrev pub invariant-loop-chain : goal.invariant-loop-chain
invariant-loop-chain l = (g : ℕ) → g < l.chain → All (λ k. chain_named l.owners k ≡ Some g) (keys_at l.lists g)
