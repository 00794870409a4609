use Rattle.gw_draw.proofs.Runs.{each_job_once}
use Rattle.gw_draw.proofs.laws.each_job_is_answered_once.Goals as goal

pub returns : goal.returns
returns c = each_job_once
