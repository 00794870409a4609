use Rattle.std.proofs.Common.{arith}
use Rattle.gw_kept.proofs.Rows.{whole_at}
use Rattle.gw_kept.proofs.kept.Kept.reply_at.Goals as goal

pub returns : goal.returns
returns c = grind (arith, whole_at)
