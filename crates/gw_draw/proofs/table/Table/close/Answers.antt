use Rattle.std.proofs.Common.{rules}
use Rattle.gw_draw.proofs.Rule.{closes}
use Rattle.gw_draw.proofs.table.Table.close.Goals as goal

pub returns : goal.returns
returns c = closes _ _ _ _ _ _ _ c.close_with-closed.ensures.values.2 c.word-word.ensures (search rules)
