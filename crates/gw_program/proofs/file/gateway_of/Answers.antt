use Rattle.std.proofs.lemmas.Result.{err_from_is_err_and}
use Rattle.gw_program.proofs.Files.{refused_config}
use Rattle.gw_program.proofs.file.gateway_of.Goals as goal

pub returns-in_err-new : goal.returns-in_err-new
returns-in_err-new g c =
    let p = err_from_is_err_and c.from_residual-in_err-new.result c.from_residual-in_err-new.ensures.1 in
    rw (p.1, p.2) (refused_config g.R.File.Read.remaining c.args.path.now c.in_ok-config.config c.in_err-new.field-0.0 c.in_ok-config.ensures c.in_err-new.ensures.fault)
