-- What a command does to one termination, and what its reply has (RFC 3525, section 7.2; which case gets which code,
-- and in which order, is own). It is decided by the termination's record, and by whether the action's context is full.
use Rattle.std.specs.Prelude.{ℕ, nat_eq, nat_le, Bool, not, ◌||◌, if◌then◌else◌, List, [], ◌∷◌, ◌++◌, length, Option, None, Some, Result, Ok, Err}
use Rattle.std.specs.Option.{unwrap_or}
use Rattle.gw_base.specs.declared.code.Code.{Code}
use Rattle.gw_base.specs.declared.code.Code.TheVariants.{IllegalCombination, AlreadyInContext, ContextFull, NotInContext, InsufficientResources, UnknownCommand, UnknownTermination}
use Rattle.gw_base.specs.declared.ids.CtxNum.{CtxNum}
use Rattle.gw_base.specs.declared.command_words.Rules.{Rules}
use Rattle.gw_base.specs.declared.command_words.Service.{Service}
use Rattle.gw_base.specs.declared.command_words.Verb.{Verb}
use Rattle.gw_base.specs.declared.command_words.Verb.TheVariants.{Add, Modify, Move, Subtract, AuditValue, AuditCapability, Notify, ServiceChange}
use Rattle.gw_desc.specs.declared.descriptor.Descriptor.{Descriptor}
use Rattle.gw_msg.specs.declared.message.Command.{Command}
use Rattle.gw_reply.specs.declared.parts.FilledStream.{FilledStream}
use Rattle.gw_reply.specs.declared.parts.ReplyPart.{ReplyPart}
use Rattle.gw_reply.specs.declared.parts.ReplyPart.TheVariants as part
use Rattle.gw_term.specs.declared.record.Termination.{Termination}
use Rattle.gw_term.specs.Record.{placed, serviced}
use Rattle.gw_term.specs.Merge.{merged, filled_by}
use Rattle.gw_term.specs.Audit.{audit_parts}
pub use Rattle.gw_table.specs.Gone.{what_remains}
use Rattle.gw_table.specs.Maps.{Maps, Outcome, term, ctx, members_of}
use Rattle.gw_table.specs.Members.{put_service}
use Rattle.gw_refusal.specs.Requested.{audited, requests_media, is_some_list, requested_service}
use Rattle.gw_cmd.specs.declared.change.Change.TheVariants.{Stays, Becomes, Joins, Crosses, Leaves}
use Rattle.gw_cmd.specs.declared.change.Decided.{Decided}
use Rattle.gw_cmd.specs.Changes.{changed}
use Rattle.gw_refusal.specs.Places.{same_place}

-- ---- commands that merge

-- the Locals that were filled, unless Media is audited
abbrev pub filled_part : List Descriptor → List FilledStream → List ReplyPart
filled_part descriptors filled = if requests_media descriptors || not (is_some_list filled) then [] else part.Filled filled ∷ []

-- what was filled, and what is audited of the record after it
abbrev pub parts_of : List Descriptor → List FilledStream → Termination → List ReplyPart
parts_of descriptors filled new = filled_part descriptors filled ++ audit_parts (audited descriptors) new

-- what a merge comes to: the record after it, and what the reply has
pub record Merged : Type 0 where
  pub record_after : Termination
  pub parts : List ReplyPart

abbrev pub with_parts : List Descriptor → List FilledStream → Termination → Merged
with_parts descriptors filled new = record { record_after = new; parts = parts_of descriptors filled new }

-- unless it is refused
abbrev pub merged_in : List Descriptor → List FilledStream → Option Code → Termination → Result Merged Code
merged_in descriptors filled (Some code) new = Err code
merged_in descriptors filled None new = Ok (with_parts descriptors filled new)

-- a list that would hold too many properties comes first
abbrev pub merging_to : Rules → List Descriptor → (old : Termination) → Option CtxNum → Option Code → Option Termination → Result Merged Code
merging_to rules descriptors old place refused None = Err InsufficientResources
merging_to rules descriptors old place refused (Some new) = merged_in descriptors (filled_by rules descriptors old) refused (placed new place)

unfoldable pub merging : Rules → List Descriptor → (old : Termination) → Option CtxNum → Option Code → Result Merged Code
merging rules descriptors old place refused = merging_to rules descriptors old place refused (merged rules descriptors old)

-- ---- why a termination is refused, by where it is

-- Add wants one that is in no context
abbrev pub refusal_to_add : Bool → Option CtxNum → Option Code
refusal_to_add full (Some p) = Some AlreadyInContext
refusal_to_add full None = if full then Some ContextFull else None

-- Move one that is in another
abbrev pub refusal_to_move : Bool → CtxNum → Option CtxNum → Option Code
refusal_to_move full n None = Some NotInContext
refusal_to_move full n (Some p) =
    if nat_eq p.0 n.0 then Some AlreadyInContext
    else if full then Some ContextFull
    else None

-- the others one that is in the action's
abbrev pub refusal_elsewhere : Option CtxNum → Option CtxNum → Option Code
refusal_elsewhere place there = if same_place there place then None else Some NotInContext

-- ---- each command on a termination

abbrev pub joins : CtxNum → Result Merged Code → Result Decided Code
joins n (Err code) = Err code
joins n (Ok m) = Ok (record { change = Joins n m.record_after; parts = m.parts })

abbrev pub added : Rules → List Descriptor → Bool → CtxNum → Termination → Result Decided Code
added rules descriptors full n r = joins n (merging rules descriptors r (Some n) (refusal_to_add full r.place))

-- from the context that it is in; one that is in none was refused
abbrev pub crosses : Option CtxNum → CtxNum → Result Merged Code → Result Decided Code
crosses p n (Err code) = Err code
crosses None n (Ok m) = Err NotInContext
crosses (Some p) n (Ok m) = Ok (record { change = Crosses p n m.record_after; parts = m.parts })

abbrev pub moved : Rules → List Descriptor → Bool → CtxNum → Termination → Result Decided Code
moved rules descriptors full n r = crosses r.place n (merging rules descriptors r (Some n) (refusal_to_move full n r.place))

abbrev pub becomes : Result Merged Code → Result Decided Code
becomes (Err code) = Err code
becomes (Ok m) = Ok (record { change = Becomes m.record_after; parts = m.parts })

abbrev pub modified : Rules → List Descriptor → Option CtxNum → Termination → Result Decided Code
modified rules descriptors place r = becomes (merging rules descriptors r place (refusal_elsewhere place r.place))

-- done, unless it is refused
abbrev pub unless : Option Code → Decided → Result Decided Code
unless (Some code) d = Err code
unless None d = Ok d

abbrev pub subtracted : List Descriptor → CtxNum → Termination → Result Decided Code
subtracted descriptors n r = unless (refusal_elsewhere (Some n) r.place) (record { change = Leaves n (what_remains r); parts = audit_parts (audited descriptors) r })

abbrev pub audited_in : List Descriptor → Option CtxNum → Termination → Result Decided Code
audited_in descriptors place r = unless (refusal_elsewhere place r.place) (record { change = Stays; parts = audit_parts (audited descriptors) r })

-- the service state of the Method, or as it was
abbrev pub after_change : List Descriptor → Termination → Termination
after_change descriptors r = serviced r (unwrap_or (requested_service descriptors) r.service)

abbrev pub service_changed : List Descriptor → Option CtxNum → Termination → Result Decided Code
service_changed descriptors place r = unless (refusal_elsewhere place r.place) (record { change = Becomes (after_change descriptors r); parts = [] })

-- ---- by the command's word; those that want a context were refused in the null context

abbrev pub decided_in : Rules → Verb → List Descriptor → Bool → CtxNum → Termination → Result Decided Code
decided_in rules Add descriptors full n r = added rules descriptors full n r
decided_in rules Move descriptors full n r = moved rules descriptors full n r
decided_in rules Subtract descriptors full n r = subtracted descriptors n r
decided_in rules Modify descriptors full n r = modified rules descriptors (Some n) r
decided_in rules AuditValue descriptors full n r = audited_in descriptors (Some n) r
decided_in rules ServiceChange descriptors full n r = service_changed descriptors (Some n) r
decided_in rules AuditCapability descriptors full n r = Err UnknownCommand
decided_in rules Notify descriptors full n r = Err UnknownCommand

abbrev pub decided_in_null : Rules → Verb → List Descriptor → Termination → Result Decided Code
decided_in_null rules Modify descriptors r = modified rules descriptors None r
decided_in_null rules AuditValue descriptors r = audited_in descriptors None r
decided_in_null rules ServiceChange descriptors r = service_changed descriptors None r
decided_in_null rules Add descriptors r = Err IllegalCombination
decided_in_null rules Move descriptors r = Err IllegalCombination
decided_in_null rules Subtract descriptors r = Err IllegalCombination
decided_in_null rules AuditCapability descriptors r = Err UnknownCommand
decided_in_null rules Notify descriptors r = Err UnknownCommand

-- ---- on the maps

-- a full context takes no more members
abbrev pub is_full : Rules → CtxNum → Maps → Bool
is_full rules n m = nat_le rules.members (length (members_of (ctx m n)))

abbrev pub decided : Rules → Option CtxNum → Command → Maps → Termination → Result Decided Code
decided rules None c m r = decided_in_null rules c.verb c.descriptors r
decided rules (Some n) c m r = decided_in rules c.verb c.descriptors (is_full rules n m) n r

-- the maps and the answer after a decision; a refusal leaves all as it was
abbrev pub done : List ℕ → Maps → Result Decided Code → Outcome (Result (List ReplyPart) Code)
done t m (Err code) = record { maps = m; answer = Err code }
done t m (Ok d) = record { maps = changed t d.change m; answer = Ok d.parts }

-- on a termination with this record, which it has in the tables or is about to have
unfoldable pub on_record : Rules → Option CtxNum → Command → List ℕ → Termination → Maps → Outcome (Result (List ReplyPart) Code)
on_record rules place c t r m = done t m (decided rules place c m r)

abbrev pub on_found : Rules → Option CtxNum → Command → List ℕ → Option Termination → Maps → Outcome (Result (List ReplyPart) Code)
on_found rules place c t None m = done t m (Err UnknownTermination)
on_found rules place c t (Some r) m = on_record rules place c t r m

-- on the termination of a name
abbrev pub on_name : Rules → Option CtxNum → Command → List ℕ → Maps → Outcome (Result (List ReplyPart) Code)
on_name rules place c t m = on_found rules place c t (term m t) m

-- ---- what needs no new record

-- a termination that is left as it is has an empty answer, unless it is refused
abbrev pub empty_unless : Option Code → Result (List ReplyPart) Code
empty_unless (Some code) = Err code
empty_unless None = Ok []

-- another service state, unless it is refused
abbrev pub after_service : Option Code → Service → List ℕ → Maps → Outcome (Result (List ReplyPart) Code)
after_service (Some code) s t m = record { maps = m; answer = Err code }
after_service None s t m = record { maps = put_service s t m (term m t); answer = Ok [] }
