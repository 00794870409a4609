use Rattle.std.proofs.lemmas.Result.{err_from_is_err_and}
use Rattle.gw_front.proofs.Courses.{not_begun}
use Rattle.gw_front.proofs.replaying.replay.Goals as goal

pub returns-in_default : goal.returns-in_default
returns-in_default g c = not_begun (g.R.Read.remaining c.args.reader.now) (g.W.Write.contents c.args.writer.now) c.args.gateway.now

pub returns-in_err-held : goal.returns-in_err-held
returns-in_err-held g c =
    let p = err_from_is_err_and c.from_residual.result c.from_residual.ensures.1 in
    rw (p.1, p.2) (not_begun (g.R.Read.remaining c.args.reader.now) (g.W.Write.contents c.args.writer.now) c.args.gateway.now)
