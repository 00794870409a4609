use Rattle.gw_draw.proofs.Rule.{few}
use Rattle.gw_draw.proofs.laws.the_word_stays_near_the_jobs.Goals as goal

pub returns : goal.returns
returns c = few
