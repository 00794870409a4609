use Rattle.std.proofs.Common.{ℕ, List, Result, Err, refl, subst, IfOk}
use Rattle.gw_base.specs.declared.code.Code.{Code}
use Rattle.gw_base.specs.declared.fault.NoMemory.{NoMemory}
use Rattle.gw_msg.specs.Grammar.{IsReadingOf}
use Rattle.gw_engine.specs.Bursts.{IsMessageOf}
use Rattle.gw_engine.proofs.reading.read_datagram.Goals as goal

pub returns-in_ok-code_of-in-Err : goal.returns-in_ok-code_of-in-Err
returns-in_ok-code_of-in-Err c =
    let text : List ℕ = c.args.datagram.now.bytes in
    let read : IsReadingOf text (Err c.in-Err.fault) = subst (λ (t : List ℕ). IsReadingOf t (Err c.in-Err.fault)) c.as_slice.ensures c.in-Err.ensures in
    record {
      peer = refl;
      message = subst (λ (r : Result Code NoMemory). IfOk r (λ code. IsMessageOf text (Err code))) c.in_ok-code_of-in-Err.was (c.code_of.ensures text read);
    }
