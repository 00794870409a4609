use Rattle.gw_board.proofs.ByChains.{go_by_chains}
use Rattle.gw_board.proofs.laws.chains_go_side_by_side.Goals as goal

pub returns : goal.returns
returns c = go_by_chains
