use Rattle.gw_reply.proofs.TextLengths.{too_long_is_short}
use Rattle.gw_reply.proofs.message.too_long.Goals as goal

pub returns-clause-short : goal.returns-clause-short
returns-clause-short c = too_long_is_short c.args.id
