use Rattle.std.proofs.Common.{codes}
use Rattle.gw_text.proofs.Signs.{exact_again}
use Rattle.gw_msg.proofs.read.protocol_name.Goals as goal

pub returns-then-exact_prefix : goal.returns-then-exact_prefix
returns-then-exact_prefix c = exact_again (codes "MEGACO") c.args.cursor.now c.exact_prefix.new.self c.if-exact_prefix.ensures
