-- Why a termination is not changed (own).
use Rattle.std.specs.Prelude.{◌≡◌, Result, Ok, Err}
use Rattle.gw_base.specs.declared.code.Code.{Code}
use Rattle.gw_term.specs.declared.fault.ApplyFault.{ApplyFault}
use Rattle.gw_term.specs.declared.fault.ApplyFault.TheVariants as apply
use Rattle.gw_table.specs.Maps.{Maps, Outcome}
use Rattle.gw_cmd.specs.declared.refusal.Refusal.{Refusal}
use Rattle.gw_cmd.specs.declared.refusal.Refusal.TheVariants as refusal

-- a list that would hold too many properties is an error of the reply
abbrev pub refusal_of : ApplyFault → Refusal
refusal_of (apply.Code code) = refusal.Code code
refusal_of apply.NoMemory = refusal.NoMemory

-- what a call gives, and the maps that it leaves, but for a lack of memory
abbrev pub Gives : {A : Type 0} → Result A Refusal → Maps → Outcome (Result A Code) → Type 0
Gives (Ok a) m o = (m ≡ o.maps) × (Ok a ≡ o.answer)
Gives (Err (refusal.Code code)) m o = (m ≡ o.maps) × (Err code ≡ o.answer)
Gives (Err refusal.NoMemory) m o = Unit {0}

-- what a call answers that changes nothing, but for a lack of memory
abbrev pub Answers : {A : Type 0} → Result A Refusal → Result A Code → Type 0
Answers (Ok a) o = Ok a ≡ o
Answers (Err (refusal.Code code)) o = Err code ≡ o
Answers (Err refusal.NoMemory) o = Unit {0}
