-- The words that stand for values: modes of a stream (RFC 3525, section 7.1.7), service states (section 7.1.5), what an
-- Audit requests (section 7.2.5), in their long and their short form, in any case.
use Rattle.std.specs.Prelude.{ℕ, Bool, true, false, List, [], ◌∷◌, Option, Some, None, Result, Ok, Err}
use Rattle.gw_base.specs.declared.command_words.Service.{Service}
use Rattle.gw_base.specs.declared.command_words.Service.TheVariants as service
use Rattle.gw_text.specs.Scans.{uint32_at}
use Rattle.gw_text.specs.Tokens.{token_of}
use Rattle.gw_text.specs.declared.fault.ScanFault.{ScanFault}
use Rattle.gw_text.specs.declared.token.Token.{Token}
use Rattle.gw_text.specs.declared.token.Token.TheVariants as token
use Rattle.gw_desc.specs.declared.descriptor.KeptKind.TheVariants as kept
use Rattle.gw_desc.specs.declared.descriptor.Sign.{Sign}
use Rattle.gw_desc.specs.declared.descriptor.Sign.TheVariants.{Equal, NotEqual, Less, Greater}
use Rattle.gw_desc.specs.declared.descriptor.Property.{Property}
use Rattle.gw_desc.specs.declared.descriptor.ServiceParm.{ServiceParm}
use Rattle.gw_desc.specs.declared.values.Mode.{Mode}
use Rattle.gw_desc.specs.declared.values.Mode.TheVariants as mode
use Rattle.gw_desc.specs.declared.values.AuditItem.{AuditItem}
use Rattle.gw_desc.specs.declared.values.AuditItem.TheVariants as item

-- ---- modes

abbrev pub mode_for : Option Token → Option Mode
mode_for (Some token.SendOnly) = Some mode.SendOnly
mode_for (Some token.ReceiveOnly) = Some mode.ReceiveOnly
mode_for (Some token.SendReceive) = Some mode.SendReceive
mode_for (Some token.Inactive) = Some mode.Inactive
mode_for (Some token.Loopback) = Some mode.Loopback
mode_for _ = None

-- the mode that a value is
unfoldable pub mode_of : List ℕ → Option Mode
mode_of value = mode_for (token_of value)

-- ---- service states

abbrev pub service_for : Option Token → Option Service
service_for (Some token.Test) = Some service.Test
service_for (Some token.OutOfService) = Some service.OutOfService
service_for (Some token.InService) = Some service.InService
service_for _ = None

-- the service state that a value is
unfoldable pub service_of : List ℕ → Option Service
service_of value = service_for (token_of value)

-- ---- items of an Audit

abbrev pub item_for : Option Token → Option AuditItem
item_for (Some token.Media) = Some item.Media
item_for (Some token.Signals) = Some (item.Kept kept.Signals)
item_for (Some token.Events) = Some (item.Kept kept.Events)
item_for (Some token.EventBuffer) = Some (item.Kept kept.EventBuffer)
item_for (Some token.DigitMap) = Some (item.Kept kept.DigitMap)
item_for (Some token.Statistics) = Some item.Statistics
item_for (Some token.ObservedEvents) = Some item.ObservedEvents
item_for (Some token.Packages) = Some item.Packages
item_for _ = None

-- what a word of an Audit requests
unfoldable pub item_of : List ℕ → Option AuditItem
item_of word = item_for (token_of word)

-- ---- special properties

abbrev pub is_for_mode : Option Token → Bool
is_for_mode (Some token.Mode) = true
is_for_mode _ = false

-- Mode, as a property of a LocalControl
unfoldable pub is_mode : List ℕ → Bool
is_mode name = is_for_mode (token_of name)

abbrev pub is_for_states : Option Token → Bool
is_for_states (Some token.ServiceStates) = true
is_for_states _ = false

-- ServiceStates, as a property of a TerminationState
unfoldable pub is_service_states : List ℕ → Bool
is_service_states name = is_for_states (token_of name)

-- the value that stands behind `=`
abbrev pub behind_equals : {V : Type 0} → Sign → Option V → Option V
behind_equals Equal value = value
behind_equals NotEqual value = None
behind_equals Less value = None
behind_equals Greater value = None

-- the mode that a Mode sets
abbrev pub mode_set_by : Property (List ℕ) → Option Mode
mode_set_by p = behind_equals p.sign (mode_of p.value)

-- the service state that a ServiceStates sets
abbrev pub service_set_by : Property (List ℕ) → Option Service
service_set_by p = behind_equals p.sign (service_of p.value)

-- ---- parameters of Services (RFC 3525, section 7.2.8)

-- the number, if nothing is left behind it
abbrev pub whole_number : Result (ℕ × List ℕ) ScanFault → Option ℕ
whole_number (Ok (number, [])) = Some number
whole_number (Ok (number, b ∷ bs)) = None
whole_number (Err fault) = None

-- the number that a value is as a whole: a uint32
unfoldable pub uint32_of : List ℕ → Option ℕ
uint32_of text = whole_number (uint32_at text)

abbrev pub names_parm : Token → Option Token → Bool
names_parm token.Method (Some token.Method) = true
names_parm token.Reason (Some token.Reason) = true
names_parm token.Delay (Some token.Delay) = true
names_parm _ _ = false

-- a parameter of this name: Method, Reason or Delay
unfoldable pub is_parm : Token → ServiceParm → Bool
is_parm wanted parm = names_parm wanted (token_of parm.name)
