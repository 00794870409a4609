-- What a command names and requests (RFC 3525, sections 7.2 and 6.2.2): by its word, its TerminationID and its
-- descriptors alone.
use Rattle.std.specs.Prelude.{ℕ, ◌==◌, nat_eq, Bool, true, false, not, ◌||◌, List, [], ◌∷◌, Option, None, Some}
use Rattle.std.specs.Option.{is_none}
use Rattle.std.specs.List.{starts_with, list_any, find}
use Rattle.gw_base.specs.declared.command_words.Service.{Service}
use Rattle.gw_base.specs.declared.command_words.Service.TheVariants as service
use Rattle.gw_base.specs.declared.command_words.Verb.{Verb}
use Rattle.gw_base.specs.declared.command_words.Verb.TheVariants.{Add, Modify, Move, Subtract, AuditCapability, Notify, ServiceChange}
use Rattle.gw_base.specs.declared.term_ref.TermRef.{TermRef}
use Rattle.gw_base.specs.declared.term_ref.TermRef.TheVariants.{Root, All, Under, Choose, Other}
use Rattle.gw_text.specs.Tokens.{token_of}
use Rattle.gw_text.specs.declared.token.Token.{Token}
use Rattle.gw_text.specs.declared.token.Token.TheVariants as token
use Rattle.gw_desc.specs.declared.descriptor.Descriptor.{Descriptor}
use Rattle.gw_desc.specs.declared.descriptor.Descriptor.TheVariants as descriptor
use Rattle.gw_desc.specs.declared.descriptor.ServiceParm.{ServiceParm}
use Rattle.gw_desc.specs.declared.descriptor.ServiceValue.{ServiceValue}
use Rattle.gw_desc.specs.declared.descriptor.ServiceValue.TheVariants as value
use Rattle.gw_desc.specs.declared.values.AuditItem.TheVariants as item
use Rattle.gw_desc.specs.Checks.{is_asking, is_audit, is_services}
use Rattle.gw_desc.specs.Values.{is_parm, uint32_of}

-- ---- the command's word

abbrev pub is_add : Verb → Bool
is_add Add = true
is_add _ = false

abbrev pub is_move : Verb → Bool
is_move Move = true
is_move _ = false

abbrev pub is_modify : Verb → Bool
is_modify Modify = true
is_modify _ = false

abbrev pub is_subtract : Verb → Bool
is_subtract Subtract = true
is_subtract _ = false

abbrev pub is_service_change : Verb → Bool
is_service_change ServiceChange = true
is_service_change _ = false

-- those that bring a termination into a context
abbrev pub brings : Verb → Bool
brings verb = is_add verb || is_move verb

-- AuditCapability, and Notify towards a gateway
abbrev pub is_unsupported : Verb → Bool
is_unsupported AuditCapability = true
is_unsupported Notify = true
is_unsupported _ = false

-- ---- the TerminationID

abbrev pub is_root : TermRef → Bool
is_root Root = true
is_root _ = false

abbrev pub is_choose : TermRef → Bool
is_choose Choose = true
is_choose _ = false

abbrev pub is_other_term : TermRef → Bool
is_other_term (Other text) = true
is_other_term _ = false

-- for all terminations that it matches
abbrev pub is_wildcard : TermRef → Bool
is_wildcard All = true
is_wildcard (Under prefix) = true
is_wildcard _ = false

-- the wildcard matches the name
abbrev pub matches : TermRef → List ℕ → Bool
matches All name = true
matches (Under prefix) name = starts_with nat_eq name prefix
matches _ name = false

-- ---- the first Audit and the first Services

abbrev pub words_in : Option Descriptor → List (List ℕ)
words_in (Some (descriptor.Audit words)) = words
words_in _ = []

-- what is to be audited: the words of the first Audit
abbrev pub audited : List Descriptor → List (List ℕ)
audited descriptors = words_in (find is_audit descriptors)

abbrev pub is_some_list : {X : Type 0} → List X → Bool
is_some_list [] = false
is_some_list (x ∷ xs) = true

-- Media is among it
abbrev pub requests_media : List Descriptor → Bool
requests_media descriptors = list_any (is_asking item.Media) (audited descriptors)

abbrev pub parms_in : Option Descriptor → List ServiceParm
parms_in (Some (descriptor.Services parms)) = parms
parms_in _ = []

abbrev pub value_in : Option ServiceParm → Option ServiceValue
value_in None = None
value_in (Some parm) = parm.value

-- the value of the first parameter of this name in the first Services
abbrev pub parm_value : Token → List Descriptor → Option ServiceValue
parm_value wanted descriptors = value_in (find (is_parm wanted) (parms_in (find is_services descriptors)))

abbrev pub method : List Descriptor → Option ServiceValue
method descriptors = parm_value token.Method descriptors

abbrev pub delay : List Descriptor → Option ServiceValue
delay descriptors = parm_value token.Delay descriptors

-- Forced takes out of service, Restart brings back
abbrev pub service_by_word : Option Token → Option Service
service_by_word (Some token.Forced) = Some service.OutOfService
service_by_word (Some token.Restart) = Some service.InService
service_by_word _ = None

-- the service state that a Method requests; a quoted value is no word
abbrev pub service_by : ServiceValue → Option Service
service_by (value.Quoted text) = None
service_by (value.Run text) = service_by_word (token_of text)

abbrev pub service_if : Option ServiceValue → Option Service
service_if None = None
service_if (Some v) = service_by v

-- the service state that is requested
abbrev pub requested_service : List Descriptor → Option Service
requested_service descriptors = service_if (method descriptors)

-- a Method that is not executed
abbrev pub is_other_method : Option ServiceValue → Bool
is_other_method None = false
is_other_method (Some v) = is_none (service_by v)

abbrev pub is_number_but_0 : Option ℕ → Bool
is_number_but_0 None = false
is_number_but_0 (Some k) = not (k == 0)

-- a Delay that is not executed: a number other than 0
abbrev pub is_other_delay : Option ServiceValue → Bool
is_other_delay (Some (value.Run text)) = is_number_but_0 (uint32_of text)
is_other_delay _ = false
