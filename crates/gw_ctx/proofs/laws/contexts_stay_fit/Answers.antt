use Rattle.gw_ctx.proofs.Fits.{fit_left, fit_linked}
use Rattle.gw_ctx.proofs.laws.contexts_stay_fit.Goals as goal

pub returns-clause-left : goal.returns-clause-left
returns-clause-left c = fit_left

pub returns-clause-linked : goal.returns-clause-linked
returns-clause-linked c = fit_linked
