-- What a merge and its steps answer (own).
use Rattle.std.specs.Prelude.{◌≡◌, List, Option, Some, None, Result, Ok, Err}
use Rattle.gw_base.specs.declared.code.Code.TheVariants.{InsufficientResources}
use Rattle.gw_base.specs.declared.command_words.Rules.{Rules}
use Rattle.gw_desc.specs.declared.descriptor.Descriptor.{Descriptor}
use Rattle.gw_reply.specs.declared.parts.FilledStream.{FilledStream}
use Rattle.gw_term.specs.Merge.{merged, filled_by}
use Rattle.gw_term.specs.declared.apply.Applied.{Applied}
use Rattle.gw_term.specs.declared.record.Termination.{Termination}
use Rattle.gw_term.specs.declared.fault.ApplyFault.{ApplyFault}
use Rattle.gw_term.specs.declared.fault.ApplyFault.TheVariants as fault

-- What is answered is what the definition gives, or that it gives nothing, unless memory ran out.
abbrev pub Yields : {V : Type 0} → Result V ApplyFault → Option V → Type 0
Yields (Ok v) expected = expected ≡ Some v
Yields (Err (fault.Code code)) expected = (code ≡ InsufficientResources) × (expected ≡ None)
Yields (Err fault.NoMemory) expected = Unit {0}

-- The same of a record and the streams that were filled.
abbrev pub YieldsApplied : Result Applied ApplyFault → Option (Termination × List FilledStream) → Type 0
YieldsApplied (Ok a) expected = expected ≡ Some (a.record, a.filled)
YieldsApplied (Err (fault.Code code)) expected = (code ≡ InsufficientResources) × (expected ≡ None)
YieldsApplied (Err fault.NoMemory) expected = Unit {0}

-- The same of a step that changes a value in its place.
abbrev pub Becomes : {S V : Type 0} → Result V ApplyFault → S → Option S → Type 0
Becomes (Ok v) new expected = expected ≡ Some new
Becomes (Err (fault.Code code)) new expected = (code ≡ InsufficientResources) × (expected ≡ None)
Becomes (Err fault.NoMemory) new expected = Unit {0}

-- What `merged` answers: the merge and the streams that were filled, or the code where there is no merge.
abbrev pub IsMerged : Rules → List Descriptor → Termination → Result Applied ApplyFault → Type 0
IsMerged rules descriptors old (Ok a) = (merged rules descriptors old ≡ Some a.record) × (a.filled ≡ filled_by rules descriptors old)
IsMerged rules descriptors old (Err (fault.Code code)) = (code ≡ InsufficientResources) × (merged rules descriptors old ≡ None)
IsMerged rules descriptors old (Err fault.NoMemory) = Unit {0}

-- What `apply` leaves and answers: the merge and the streams that were filled; or nothing changed, and the code where
-- there is no merge.
abbrev pub IsApplied : Rules → List Descriptor → Termination → Termination → Result (List FilledStream) ApplyFault → Type 0
IsApplied rules descriptors old new (Ok streams) = (merged rules descriptors old ≡ Some new) × (streams ≡ filled_by rules descriptors old)
IsApplied rules descriptors old new (Err (fault.Code code)) = (code ≡ InsufficientResources) × (merged rules descriptors old ≡ None) × (new ≡ old)
IsApplied rules descriptors old new (Err fault.NoMemory) = new ≡ old
