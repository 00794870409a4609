-- How jobs end.
use Rattle.std.proofs.Common.{◌≡◌, ℕ, List, Bool, true, false, Option, None, refl, inl, inr}
use Rattle.std.specs.Prelude.{Result, Ok, Err}
use Rattle.std.specs.Io.KnownBytes.{Appends}
use Rattle.std.specs.Net.Grammar.{IsSocketText}
use Rattle.std.specs.declared.net.socket_addr.SocketAddr.{SocketAddr}
use Rattle.std.proofs.KnownBytes.{Appends-nil, Keeps-refl}
use Rattle.gw_engine.specs.AuditText.{audit_text}
use Rattle.gw_engine.specs.State.{GatewayValue}
use Rattle.gw_front.specs.Replays.{IsReplay}
use Rattle.gw_front.specs.declared.counts.Counts.{Counts}
use Rattle.gw_front.specs.declared.replay_fault.ReplayFault.{ReplayFault}
use Rattle.gw_front.specs.declared.serve_fault.ServeFault.{ServeFault}
use Rattle.gw_front.specs.declared.serve_fault.ServeFault.TheVariants.{Bind}
use Rattle.gw_front.specs.declared.serve_options.ServeOptions.{ServeOptions}
use Rattle.gw_front.specs.declared.totals.Totals.{Totals}
use Rattle.gw_front.proofs.Served.{not_begun}
use Rattle.gw_program.specs.Faults.{of_replay}
use Rattle.gw_program.specs.Jobs.{AreOptions, IsReplayJob, IsServeJob, IsServedAt, IsUnprintedFor}
use Rattle.gw_program.specs.declared.job.Serving.{Serving}
use Rattle.gw_program.specs.declared.fault.Fault.{Fault}
use Rattle.gw_program.specs.declared.fault.Fault.TheVariants as why

pub stopped : (audit : Bool) (old new : GatewayValue) (input out after : Option (List ℕ)) (printed : Fault)
    (fault : ReplayFault) → printed ≡ of_replay fault → IsReplay input out after old new (Err fault)
    → IsReplayJob audit old input out after (Err printed)
stopped audit old new input out after printed fault e h =
    inl (record { replay_fault = fault; new = new; replayed = h; becomes = e })

pub unprinted : (audit : Bool) (old new : GatewayValue) (input out between after : Option (List ℕ)) (printed : Fault)
    (counts : Counts) → audit ≡ true → IsReplay input out between old new (Ok counts) → IsUnprintedFor printed between after
    → IsReplayJob audit old input out after (Err printed)
unprinted audit old new input out between after printed counts requested h cause =
    inr (record { requested = requested; counts = counts; new = new; between = between; replayed = h; cause = cause })

pub plain : (old new : GatewayValue) (input out after : Option (List ℕ)) (counts : Counts)
    → IsReplay input out after old new (Ok counts) → IsReplayJob false old input out after (Ok tt)
plain old new input out after counts h =
    record { counts = counts; new = new; between = after; replayed = h; audited = Appends-nil after }

pub with_tables : (old new : GatewayValue) (input out between after : Option (List ℕ)) (counts : Counts)
    → IsReplay input out between old new (Ok counts) → Appends between after (audit_text new)
    → IsReplayJob true old input out after (Ok tt)
with_tables old new input out between after counts h audited =
    record { counts = counts; new = new; between = between; replayed = h; audited = audited }

pub unbound : (serving : Serving) (options : ServeOptions) (gateway : GatewayValue) (out : Option (List ℕ))
    → AreOptions serving options → IsServeJob serving gateway out out (Err why.ServeBind)
unbound serving options gateway out are = record {
  options = options;
  are_options = are;
  served = Err Bind;
  new = gateway;
  address = tt;
  serves = not_begun options None gateway Bind (λ e. cc);
  begins = λ start. Keeps-refl out;
  becomes = refl;
}

-- however it ended, where the text is an address
pub served_at : (listen : List ℕ) (address : SocketAddr) (served : Result Totals ServeFault)
    → IsSocketText listen address → IsServedAt listen served
served_at listen address (Err Bind) is = tt
served_at listen address served is = (address, is)
