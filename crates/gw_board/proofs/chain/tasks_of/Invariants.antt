use Rattle.std.proofs.Common.{◌≡◌, [], drop, map, replicate}
use Rattle.gw_board.specs.BoardEntries.{place_of}
use Rattle.gw_board.specs.Stretches.{chained}
use Rattle.gw_board.proofs.ChainTasks.{AreSorted}
use Rattle.gw_board.proofs.chain.tasks_of.Given as goal

abbrev pub invariant-loop-i : goal.invariant-loop-i
invariant-loop-i l = AreSorted l.count (chained (drop l.i l.numbers) (drop l.i (map place_of l.stretch))) (chained l.numbers (map place_of l.stretch)) l.lists.items

abbrev pub invariant-loop-chain : goal.invariant-loop-chain
invariant-loop-chain l = l.lists.items ≡ replicate l._chain []
