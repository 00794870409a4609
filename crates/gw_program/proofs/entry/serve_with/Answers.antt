use Rattle.std.proofs.Common.{Ok, Err, refl}
use Rattle.std.proofs.lemmas.Result.{err_from_is_err_and}
use Rattle.gw_program.proofs.Ends.{served_at, unbound}
use Rattle.gw_program.proofs.entry.serve_with.Goals as goal

pub returns-in_default : goal.returns-in_default
returns-in_default g c =
    unbound c.args.serving.now
    (record {
      workers = c.count.result;
      bursts = c.args.serving.now.bursts;
      controllers = c.as_slice.result;
      report = c.args.serving.now.report;
      give_up = c.args.serving.now.give_up;
    })
    c.args.gateway.now (g.W.Write.contents c.args.out.now)
    (record {
      workers = c.count.ensures.value;
      bursts = refl;
      controllers = c.as_slice.ensures.value;
      report = refl;
      give_up = refl;
    })

pub returns-in_err-serve : goal.returns-in_err-serve
returns-in_err-serve g c =
    let p = err_from_is_err_and c.from_residual.result c.from_residual.ensures.1 in
    rw (p.1, p.2) (record {
      options = _;
      are_options =
          record {
            workers = c.count.ensures.value;
            bursts = refl;
            controllers = c.as_slice.ensures.value;
            report = refl;
            give_up = refl;
          };
      served = Err c.in_err-serve.field-0.0;
      new = c.serve.new.gateway;
      address = served_at c.args.serving.now.listen.now c.in-Ok.addr (Err c.in_err-serve.field-0.0)
          c.in-Ok.ensures.value;
      serves = c.in_err-serve.ensures.served;
      begins = λ start. (c.in_err-serve.ensures.start start).1;
      becomes = refl;
    })

pub returns : goal.returns
returns g c = record {
  options = _;
  are_options =
      record {
        workers = c.count.ensures.value;
        bursts = refl;
        controllers = c.as_slice.ensures.value;
        report = refl;
        give_up = refl;
      };
  served = Ok c.in_ok-serve.field-0;
  new = c.serve.new.gateway;
  address = (c.in-Ok.addr, c.in-Ok.ensures.value);
  serves = c.in_ok-serve.ensures.served;
  begins = tt;
  becomes = refl;
}
