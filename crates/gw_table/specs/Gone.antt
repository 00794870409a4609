-- What remains of a termination that leaves its context (RFC 3525, section 7.2.3).
use Rattle.std.specs.Prelude.{if◌then◌else◌, Option, None, Some}
use Rattle.std.specs.Option.{is_some}
use Rattle.gw_term.specs.declared.record.Termination.{Termination}
use Rattle.gw_term.specs.Record.{reset}

-- an ephemeral termination is destroyed, another goes to the null context
abbrev pub what_remains : Termination → Option Termination
what_remains r = if is_some r.slot then None else Some (reset r)
