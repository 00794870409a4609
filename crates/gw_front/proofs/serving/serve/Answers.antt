use Rattle.std.proofs.Common.{None}
use Rattle.std.proofs.lemmas.Result.{err_from_is_err_and}
use Rattle.gw_front.proofs.Served.{not_begun}
use Rattle.gw_front.proofs.serving.serve.Goals as goal

pub returns-in_err-bound-clause-served : goal.returns-in_err-bound-clause-served
returns-in_err-bound-clause-served g c =
    let p = err_from_is_err_and c.from_residual.result c.from_residual.ensures.1 in
    rw (p.1, p.2) (not_begun c.args.options None c.args.gateway.now c.in_err-bound.field-0.0 c.in_err-bound.ensures)
