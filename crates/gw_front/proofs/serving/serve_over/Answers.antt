use Rattle.std.proofs.lemmas.Result.{err_from_is_err_and}
use Rattle.gw_front.specs.declared.serve_fault.ServeFault.TheVariants.{NoMemory}
use Rattle.gw_front.proofs.Served.{not_begun}
use Rattle.gw_front.proofs.serving.serve_over.Goals as goal

pub returns-in_err-server-clause-served : goal.returns-in_err-server-clause-served
returns-in_err-server-clause-served g c =
    let p = err_from_is_err_and c.from_residual.result c.from_residual.ensures.1 in
    rw (p.1, p.2) (not_begun c.args.options (g.S.Exchange.course c.args.exchange.now) c.args.gateway.now NoMemory
    (λ e. cc))
