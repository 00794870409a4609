use Rattle.gw_kept.proofs.Repeats.{has_reply}
use Rattle.gw_kept.proofs.laws.repeats_get_kept_replies.Goals as goal

pub returns : goal.returns
returns c = has_reply
