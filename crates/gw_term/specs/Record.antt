-- The record of a termination (RFC 3525, section 6.2), and what becomes of it.
use Rattle.std.specs.Prelude.{ℕ, List, [], Option, Some, None}
use Rattle.gw_base.specs.declared.ids.CtxNum.{CtxNum}
use Rattle.gw_base.specs.declared.command_words.Service.{Service}
use Rattle.gw_base.specs.declared.command_words.Service.TheVariants.{InService}
use Rattle.gw_desc.specs.declared.descriptor.KeptKind.{KeptKind}
use Rattle.gw_desc.specs.declared.descriptor.Tail.{Tail}
use Rattle.gw_desc.specs.declared.values.Mode.TheVariants.{Inactive}
use Rattle.gw_term.specs.Places.{at_kind}
use Rattle.gw_term.specs.Settings.{nothing_set}
use Rattle.gw_term.specs.declared.record.Stream.{Stream}
use Rattle.gw_term.specs.declared.record.Termination.{Termination}

-- a termination of this slot, or of none, in this place and service state, of which nothing was set
abbrev pub unset : Option CtxNum → Service → Option ℕ → Termination
unset place service slot = record {
  place = place;
  service = service;
  slot = slot;
  settings = nothing_set;
}

-- a termination that was configured: in the null context and in service
abbrev pub provisioned : Termination
provisioned = unset None InService None

-- one that was made for this slot: the same
abbrev pub ephemeral : ℕ → Termination
ephemeral slot = unset None InService (Some slot)

-- it is elsewhere
abbrev pub placed : Termination → Option CtxNum → Termination
placed r place = record r { place = place }

-- it has another service state
abbrev pub serviced : Termination → Service → Termination
serviced r service = record r { service = service }

-- it is in the null context, and nothing that was set stays but its service state
abbrev pub reset : Termination → Termination
reset r = unset None r.service r.slot

-- a stream of which nothing was set
abbrev pub new_stream : Stream
new_stream = record { mode = Inactive; properties = []; local = None; remote = None }

-- the tail that it keeps of a kind
abbrev pub tail_of : KeptKind → Termination → Option (Tail (List ℕ))
tail_of kind r = at_kind kind r.settings.tails
