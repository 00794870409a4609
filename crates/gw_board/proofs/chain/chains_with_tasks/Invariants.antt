use Rattle.std.proofs.Common.{map}
use Rattle.gw_table.specs.Stored.{maps_of}
use Rattle.gw_board.specs.BoardEntries.{place_of}
use Rattle.gw_board.specs.Stretches.{chained}
use Rattle.gw_board.proofs.ChainsMade.{AreMade}
use Rattle.gw_board.proofs.chain.chains_with_tasks.Given as goal

abbrev pub invariant-loop-keys : goal.invariant-loop-keys
invariant-loop-keys l = AreMade l.profile (maps_of l.tables) (chained l.numbers (map place_of l.stretch)) l.initial.keys-iterator.rest.items l.keys-iterator.rest.items l.chains.items l.lists.items
