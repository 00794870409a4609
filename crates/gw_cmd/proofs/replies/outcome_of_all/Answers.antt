use Rattle.std.proofs.Common.{arith}
use Rattle.gw_cmd.proofs.Seen.{failed_first, first_result, result_of}
use Rattle.gw_cmd.proofs.replies.outcome_of_all.Goals as goal
use Rattle.gw_cmd.proofs.replies.outcome_of_all.Goals.{in-Some, in-None}

pub returns : goal.returns
returns c = grind (arith, result_of, in-Some, in-None, first_result, failed_first)
