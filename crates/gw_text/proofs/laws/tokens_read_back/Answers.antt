use Rattle.gw_text.proofs.TokenTable.{all_back}
use Rattle.gw_text.proofs.laws.tokens_read_back.Goals as goal

pub returns : goal.returns
returns c = all_back
