use Rattle.std.proofs.Common.{Ok, Err, refl}
use Rattle.std.proofs.KnownBytes.{Keeps-refl}
use Rattle.std.proofs.lemmas.Result.{err_from_is_err_and}
use Rattle.gw_program.proofs.entry.run_replay.Goals as goal

pub returns-in_err-gateway : goal.returns-in_err-gateway
returns-in_err-gateway g c =
    let p = err_from_is_err_and c.from_residual.result c.from_residual.ensures.1 in
    rw (p.1, p.2) (Err c.in_err-gateway.field-0.0, c.in_err-gateway.ensures, (refl, Keeps-refl (g.W.Write.contents c.args.out.now)))

pub returns : goal.returns
returns g c = (Ok c.in_ok-gateway.gateway, c.in_ok-gateway.ensures, c.replay_with.ensures)
