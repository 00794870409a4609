use Rattle.std.proofs.Common.{inl, inr}
use Rattle.gw_program.proofs.Asking.{kind_of_mistake}
use Rattle.gw_program.proofs.entry.end_of.Goals as goal

pub returns : goal.returns
returns g c =
    inl (record {
      requested = c.in-Ok.job;
      is_requested = c.in-Ok.ensures.requested;
      done = c.run-done.result;
      is_job = c.run-done.ensures;
      printed = c.printed.ensures;
    })

pub returns-in-Err : goal.returns-in-Err
returns-in-Err g c =
    inr (record {
      kind = _;
      is_one = kind_of_mistake _ c.in-Err.mistake c.in-Err.ensures.mistaken;
      explained = c.explained.ensures;
    })
