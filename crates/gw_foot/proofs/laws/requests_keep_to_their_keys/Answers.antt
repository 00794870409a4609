use Rattle.gw_foot.proofs.WithOthers.{request_keeps, holding_keeps, put_back_after, request_whole}
use Rattle.gw_foot.proofs.laws.requests_keep_to_their_keys.Goals as goal

pub returns-clause-keeps : goal.returns-clause-keeps
returns-clause-keeps c = request_keeps

pub returns-clause-well_formed : goal.returns-clause-well_formed
returns-clause-well_formed c = request_whole

pub returns-clause-holding : goal.returns-clause-holding
returns-clause-holding c = holding_keeps

pub returns-clause-put_back : goal.returns-clause-put_back
returns-clause-put_back c = put_back_after
