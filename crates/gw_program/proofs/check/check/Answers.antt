use Rattle.std.proofs.Common.{◌∙◌, ℕ, List, subst}
use Rattle.std.specs.Io.KnownBytes.{Appends}
use Rattle.std.proofs.KnownBytes.{Keeps-refl}
use Rattle.std.proofs.lemmas.Result.{err_from_is_err_and}
use Rattle.gw_program.proofs.Files.{refused_check}
use Rattle.gw_program.proofs.check.check.Goals as goal

pub returns-in_err-_gateway : goal.returns-in_err-_gateway
returns-in_err-_gateway g c =
    let p = err_from_is_err_and c.from_residual-in_err-_gateway.result c.from_residual-in_err-_gateway.ensures.1 in
    rw (p.1, p.2) (refused_check g.R.File.Read.remaining c.args.path.now c.in_ok-config.config c.in_err-_gateway.field-0.0 (g.W.Write.contents c.args.out.now) c.in_ok-config.ensures c.in_err-_gateway.ensures.fault (Keeps-refl (g.W.Write.contents c.args.out.now)))

pub returns-in-Ok : goal.returns-in-Ok
returns-in-Ok g c = (
  c.in_ok-config.config,
  record { read = c.in_ok-config.ensures; accepted = c.in_ok-_gateway.ensures.ok.0 },
  subst (λ (l : List ℕ). Appends (g.W.Write.contents c.args.out.now) (g.W.Write.contents c.write_all.new.self) l) (c.as_slice.ensures.value ∙ c.in_ok-line.ensures) c.in-Ok.ensures.bytes,
)
