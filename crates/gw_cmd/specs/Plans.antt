-- What is decided of a termination in steps: a merge, what becomes of it, and what its reply has, where that is wanted
-- (own).
use Rattle.std.specs.Prelude.{◌≡◌, Bool, true, false, List, [], Result, Ok, Err}
use Rattle.gw_base.specs.declared.code.Code.{Code}
use Rattle.gw_desc.specs.declared.descriptor.Descriptor.{Descriptor}
use Rattle.gw_reply.specs.declared.parts.FilledStream.{FilledStream}
use Rattle.gw_reply.specs.declared.parts.ReplyPart.{ReplyPart}
use Rattle.gw_term.specs.Audit.{audit_parts}
use Rattle.gw_term.specs.declared.apply.Applied.{Applied}
use Rattle.gw_term.specs.declared.record.Termination.{Termination}
use Rattle.gw_table.specs.Maps.{Outcome}
use Rattle.gw_refusal.specs.Requested.{audited}
use Rattle.gw_cmd.specs.declared.change.Change.{Change}
use Rattle.gw_cmd.specs.declared.change.Change.TheVariants.{Stays, Becomes, Joins, Crosses, Leaves}
use Rattle.gw_cmd.specs.declared.change.Decided.{Decided}
use Rattle.gw_cmd.specs.declared.change.Plan.{Plan}
use Rattle.gw_cmd.specs.declared.refusal.Refusal.{Refusal}
use Rattle.gw_cmd.specs.declared.refusal.Refusal.TheVariants as refusal
use Rattle.gw_cmd.specs.Effects.{Merged, parts_of, with_parts}

-- ---- a merge

-- the record and what was filled of it, but for a lack of memory
abbrev pub Merges : List Descriptor → Result Applied Refusal → Result Merged Code → Type 0
Merges descriptors (Ok a) o = Ok (with_parts descriptors a.filled a.record) ≡ o
Merges descriptors (Err (refusal.Code code)) o = Err code ≡ o
Merges descriptors (Err refusal.NoMemory) o = Unit {0}

-- ---- what becomes of a termination

-- what its reply has: an Audit is of the record after the change, unless there is none
abbrev pub parts_by : List Descriptor → List FilledStream → Termination → Change → List ReplyPart
parts_by descriptors filled old Stays = audit_parts (audited descriptors) old
parts_by descriptors filled old (Becomes new) = parts_of descriptors filled new
parts_by descriptors filled old (Joins n new) = parts_of descriptors filled new
parts_by descriptors filled old (Crosses p n new) = parts_of descriptors filled new
parts_by descriptors filled old (Leaves n o) = audit_parts (audited descriptors) old

abbrev pub planned : List Descriptor → Termination → Plan → Decided
planned descriptors old p = record { change = p.change; parts = parts_by descriptors p.filled old p.change }

-- what is decided of a termination with this record, but for a lack of memory
abbrev pub Plans : List Descriptor → Termination → Result Plan Refusal → Result Decided Code → Type 0
Plans descriptors old (Ok p) o = Ok (planned descriptors old p) ≡ o
Plans descriptors old (Err (refusal.Code code)) o = Err code ≡ o
Plans descriptors old (Err refusal.NoMemory) o = Unit {0}

-- ---- where it is wanted

abbrev pub parts_if : Bool → List ReplyPart → List ReplyPart
parts_if true parts = parts
parts_if false parts = []

abbrev pub decided_if : Bool → Result Decided Code → Result Decided Code
decided_if wanted (Err code) = Err code
decided_if wanted (Ok d) = Ok (record { change = d.change; parts = parts_if wanted d.parts })

abbrev pub answer_if : Bool → Result (List ReplyPart) Code → Result (List ReplyPart) Code
answer_if wanted (Err code) = Err code
answer_if wanted (Ok parts) = Ok (parts_if wanted parts)

-- the maps, and the answer with its parts, where these are wanted
abbrev pub answered : Bool → Outcome (Result (List ReplyPart) Code) → Outcome (Result (List ReplyPart) Code)
answered wanted o = record { maps = o.maps; answer = answer_if wanted o.answer }
