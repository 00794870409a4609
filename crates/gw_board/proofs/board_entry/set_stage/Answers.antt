use Rattle.gw_board.proofs.BoardEntryFacts.{staged, staged_asked}
use Rattle.gw_board.proofs.board_entry.set_stage.Goals as goal

pub returns-clause-places : goal.returns-clause-places
returns-clause-places c = λ p e. staged c.args.board_entries.now.items c.args.place c.index_mut-board_entry.result.now c.args.stage p c.requires c.index_mut-board_entry.ensures.value e

pub returns-clause-requested : goal.returns-clause-requested
returns-clause-requested c = staged_asked c.args.board_entries.now.items c.args.place c.index_mut-board_entry.result.now c.args.stage c.index_mut-board_entry.ensures.value
