-- What is wrong with the descriptors of a command (codes of H.248.8; which code is for what, and their order: own).
-- Each code is 'there is ..', over the whole list; of those that apply the first is the answer.
use Rattle.std.specs.Prelude.{ℕ, ◌+◌, ◌==◌, nat_le, nat_lt, Bool, true, false, not, ◌||◌, ◌&&◌, if◌then◌else◌, List, [], ◌∷◌, map, length, Option, Some, None}
use Rattle.std.specs.List.{list_any, flat_map}
use Rattle.std.specs.Option.{is_some, is_none}
use Rattle.gw_base.specs.declared.code.Code.{Code}
use Rattle.gw_base.specs.declared.code.Code.TheVariants.{IllegalDescriptor, UnknownDescriptor, DescriptorTwice, PropertyTwice, CommandSyntax, InsufficientResources}
use Rattle.gw_base.specs.declared.command_words.Verb.{Verb}
use Rattle.gw_base.specs.declared.command_words.Verb.TheVariants as verb
use Rattle.gw_text.specs.declared.token.Token.{Token}
use Rattle.gw_text.specs.declared.token.Token.TheVariants as token
use Rattle.gw_desc.specs.declared.descriptor.Descriptor.{Descriptor}
use Rattle.gw_desc.specs.declared.descriptor.Descriptor.TheVariants as descriptor
use Rattle.gw_desc.specs.declared.descriptor.KeptKind.{KeptKind}
use Rattle.gw_desc.specs.declared.descriptor.KeptKind.TheVariants as kept
use Rattle.gw_desc.specs.declared.descriptor.MediaPart.{MediaPart}
use Rattle.gw_desc.specs.declared.descriptor.MediaPart.TheVariants as media
use Rattle.gw_desc.specs.declared.descriptor.StreamPart.{StreamPart}
use Rattle.gw_desc.specs.declared.descriptor.StreamPart.TheVariants as part
use Rattle.gw_desc.specs.declared.descriptor.ServiceParm.{ServiceParm}
use Rattle.gw_desc.specs.declared.descriptor.ServiceValue.{ServiceValue}
use Rattle.gw_desc.specs.declared.descriptor.ServiceValue.TheVariants as value
use Rattle.gw_desc.specs.declared.descriptor.Property.{Property}
use Rattle.gw_desc.specs.declared.descriptor.Tail.{Tail}
use Rattle.gw_desc.specs.declared.values.AuditItem.{AuditItem}
use Rattle.gw_desc.specs.declared.values.AuditItem.TheVariants as item
use Rattle.gw_desc.specs.Twice.{has_two, has_number_twice, has_name_twice}
use Rattle.gw_desc.specs.Values.{item_of, is_mode, is_service_states, mode_set_by, service_set_by, uint32_of, is_parm}

-- ---- kinds of descriptors, and where they may stand

-- a descriptor of one of the seven kinds
abbrev pub is_media : Descriptor → Bool
is_media (descriptor.Media parts) = true
is_media _ = false

abbrev pub same_kept : KeptKind → KeptKind → Bool
same_kept kept.Events kept.Events = true
same_kept kept.Signals kept.Signals = true
same_kept kept.DigitMap kept.DigitMap = true
same_kept kept.EventBuffer kept.EventBuffer = true
same_kept _ _ = false

abbrev pub is_kept : KeptKind → Descriptor → Bool
is_kept kind (descriptor.Keep other tail) = same_kept kind other
is_kept kind _ = false

abbrev pub is_audit : Descriptor → Bool
is_audit (descriptor.Audit items) = true
is_audit _ = false

abbrev pub is_services : Descriptor → Bool
is_services (descriptor.Services parms) = true
is_services _ = false

abbrev pub is_other : Descriptor → Bool
is_other (descriptor.Other word) = true
is_other _ = false

-- Add, Modify and Move may have all but Services; Subtract and AuditValue an Audit; ServiceChange a Services
abbrev pub is_legal : Verb → Descriptor → Bool
is_legal verb.Add d = not (is_services d)
is_legal verb.Modify d = not (is_services d)
is_legal verb.Move d = not (is_services d)
is_legal verb.Subtract d = is_audit d
is_legal verb.AuditValue d = is_audit d
is_legal verb.ServiceChange d = is_services d
is_legal verb.AuditCapability d = false
is_legal verb.Notify d = false

-- ---- 447: a descriptor of one of the seven kinds that the command may not have

unfoldable pub has_illegal : Verb → List Descriptor → Bool
has_illegal verb descriptors = list_any (λ d. not (is_other d) && not (is_legal verb d)) descriptors

-- ---- 444: another descriptor, or another item in an Audit

abbrev pub is_no_item : List ℕ → Bool
is_no_item word = is_none (item_of word)

abbrev pub is_unknown : Descriptor → Bool
is_unknown (descriptor.Other word) = true
is_unknown (descriptor.Audit words) = list_any is_no_item words
is_unknown _ = false

unfoldable pub has_unknown : List Descriptor → Bool
has_unknown descriptors = list_any is_unknown descriptors

-- ---- 448: two of a kind

-- two descriptors of one of the seven kinds
unfoldable pub has_kind_twice : List Descriptor → Bool
has_kind_twice descriptors =
    has_two is_media descriptors
    || has_two (is_kept kept.Events) descriptors
    || has_two (is_kept kept.Signals) descriptors
    || has_two (is_kept kept.DigitMap) descriptors
    || has_two (is_kept kept.EventBuffer) descriptors
    || has_two is_audit descriptors
    || has_two is_services descriptors

abbrev pub is_local : StreamPart → Bool
is_local (part.Local text) = true
is_local _ = false

abbrev pub is_remote : StreamPart → Bool
is_remote (part.Remote text) = true
is_remote _ = false

abbrev pub is_control : StreamPart → Bool
is_control (part.LocalControl properties) = true
is_control _ = false

-- two Locals, Remotes or LocalControls in one stream
unfoldable pub has_part_twice : List StreamPart → Bool
has_part_twice parts = has_two is_local parts || has_two is_remote parts || has_two is_control parts

abbrev pub is_state : MediaPart → Bool
is_state (media.TerminationState properties) = true
is_state _ = false

-- the numbers of the Streams
abbrev pub number_in : MediaPart → List ℕ
number_in (media.Stream number parts) = number ∷ []
number_in _ = []

abbrev pub numbers_in : List MediaPart → List ℕ
numbers_in parts = flat_map number_in parts

-- the parts of stream 1: those outside a Stream, and those of a Stream of this number
abbrev pub first_in : MediaPart → List StreamPart
first_in (media.Outside p) = p ∷ []
first_in (media.Stream number parts) = if number == 1 then parts else []
first_in (media.TerminationState properties) = []

abbrev pub first_stream : List MediaPart → List StreamPart
first_stream parts = flat_map first_in parts

abbrev pub is_stream_twice : MediaPart → Bool
is_stream_twice (media.Stream number parts) = has_part_twice parts
is_stream_twice _ = false

-- in a Media two TerminationStates, two Streams of a number, or such parts in one stream
unfoldable pub is_media_twice : List MediaPart → Bool
is_media_twice parts =
    has_two is_state parts
    || has_number_twice (numbers_in parts)
    || list_any is_stream_twice parts
    || has_part_twice (first_stream parts)

abbrev pub is_twice : Descriptor → Bool
is_twice (descriptor.Media parts) = is_media_twice parts
is_twice _ = false

unfoldable pub has_twice : List Descriptor → Bool
has_twice descriptors = has_kind_twice descriptors || list_any is_twice descriptors

-- ---- 456: a property twice in a list, an item twice in an Audit, Method, Reason or Delay twice

abbrev pub names_of : List (Property (List ℕ)) → List (List ℕ)
names_of properties = map (λ p. p.name) properties

-- a name twice in any case, or the special property under both its forms
unfoldable pub has_property_twice : (List ℕ → Bool) → List (Property (List ℕ)) → Bool
has_property_twice is_special properties = has_two (λ p. is_special p.name) properties || has_name_twice (names_of properties)

abbrev pub is_control_twice : StreamPart → Bool
is_control_twice (part.LocalControl properties) = has_property_twice is_mode properties
is_control_twice _ = false

-- there is such a list in the part
abbrev pub is_list_twice : MediaPart → Bool
is_list_twice (media.Outside p) = is_control_twice p
is_list_twice (media.Stream number parts) = list_any is_control_twice parts
is_list_twice (media.TerminationState properties) = has_property_twice is_service_states properties

abbrev pub same_item : AuditItem → AuditItem → Bool
same_item item.Media item.Media = true
same_item (item.Kept a) (item.Kept b) = same_kept a b
same_item item.Statistics item.Statistics = true
same_item item.ObservedEvents item.ObservedEvents = true
same_item item.Packages item.Packages = true
same_item _ _ = false

abbrev pub requests_item : AuditItem → Option AuditItem → Bool
requests_item wanted None = false
requests_item wanted (Some found) = same_item wanted found

abbrev pub is_asking : AuditItem → List ℕ → Bool
is_asking wanted word = requests_item wanted (item_of word)

unfoldable pub has_item_twice : List (List ℕ) → Bool
has_item_twice words =
    has_two (is_asking item.Media) words
    || has_two (is_asking (item.Kept kept.Events)) words
    || has_two (is_asking (item.Kept kept.Signals)) words
    || has_two (is_asking (item.Kept kept.DigitMap)) words
    || has_two (is_asking (item.Kept kept.EventBuffer)) words
    || has_two (is_asking item.Statistics) words
    || has_two (is_asking item.ObservedEvents) words
    || has_two (is_asking item.Packages) words

-- Method, Reason or Delay twice
unfoldable pub has_parm_twice : List ServiceParm → Bool
has_parm_twice parms = has_two (is_parm token.Method) parms || has_two (is_parm token.Reason) parms || has_two (is_parm token.Delay) parms

abbrev pub holds_twice : Descriptor → Bool
holds_twice (descriptor.Media parts) = list_any is_list_twice parts
holds_twice (descriptor.Audit words) = has_item_twice words
holds_twice (descriptor.Services parms) = has_parm_twice parms
holds_twice _ = false

unfoldable pub has_content_twice : List Descriptor → Bool
has_content_twice descriptors = list_any holds_twice descriptors

-- ---- 442: values and parts that do not fit

-- a Mode that sets no mode
abbrev pub is_bad_mode : Property (List ℕ) → Bool
is_bad_mode p = is_mode p.name && is_none (mode_set_by p)

-- a ServiceStates that sets no service state
abbrev pub is_bad_state : Property (List ℕ) → Bool
is_bad_state p = is_service_states p.name && is_none (service_set_by p)

abbrev pub is_bad_control : StreamPart → Bool
is_bad_control (part.LocalControl properties) = list_any is_bad_mode properties
is_bad_control _ = false

-- there is such a value in the part
abbrev pub is_bad_in : MediaPart → Bool
is_bad_in (media.Outside p) = is_bad_control p
is_bad_in (media.Stream number parts) = list_any is_bad_control parts
is_bad_in (media.TerminationState properties) = list_any is_bad_state properties

abbrev pub is_outside : MediaPart → Bool
is_outside (media.Outside p) = true
is_outside _ = false

abbrev pub is_stream : MediaPart → Bool
is_stream (media.Stream number parts) = true
is_stream _ = false

-- in a Media such a value, or stream parts both inside a Stream and outside
unfoldable pub is_media_bad : List MediaPart → Bool
is_media_bad parts =
    list_any is_bad_in parts
    || (list_any is_outside parts && list_any is_stream parts)

-- a value of a parameter that is a uint32
abbrev pub is_uint32 : Option ServiceValue → Bool
is_uint32 (Some (value.Run text)) = is_some (uint32_of text)
is_uint32 _ = false

abbrev pub is_bad_delay : ServiceParm → Bool
is_bad_delay parm = is_parm token.Delay parm && not (is_uint32 parm.value)

abbrev pub is_bad : Descriptor → Bool
is_bad (descriptor.Media parts) = is_media_bad parts
is_bad (descriptor.Services parms) = list_any is_bad_delay parms
is_bad _ = false

-- a parameter of this name with a value
abbrev pub has_parm_with_value : Token → ServiceParm → Bool
has_parm_with_value wanted parm = is_parm wanted parm && is_some parm.value

abbrev pub has_value : Token → List ServiceParm → Bool
has_value wanted parms = list_any (has_parm_with_value wanted) parms

-- a Services with a Method and a Reason that have values
abbrev pub is_change : Descriptor → Bool
is_change (descriptor.Services parms) = has_value token.Method parms && has_value token.Reason parms
is_change _ = false

-- what the command must have and has not: AuditValue an Audit, ServiceChange such a Services
abbrev pub lacks : Verb → List Descriptor → Bool
lacks verb.AuditValue descriptors = not (list_any is_audit descriptors)
lacks verb.ServiceChange descriptors = not (list_any is_change descriptors)
lacks _ descriptors = false

unfoldable pub has_bad : Verb → List Descriptor → Bool
has_bad verb descriptors = list_any is_bad descriptors || lacks verb descriptors

-- ---- 510: a number or a length past its limit

-- the most bytes of a Local, of a Remote, or of a tail's word and group
abbrev pub longest_kept : ℕ
longest_kept = 8192

abbrev pub length_if : Option (List ℕ) → ℕ
length_if None = 0
length_if (Some text) = length text

abbrev pub is_tail_long : Tail (List ℕ) → Bool
is_tail_long tail = nat_lt longest_kept (length_if tail.word + length_if tail.group)

abbrev pub is_part_long : StreamPart → Bool
is_part_long (part.Local text) = nat_lt longest_kept (length text)
is_part_long (part.Remote text) = nat_lt longest_kept (length text)
is_part_long (part.LocalControl properties) = false

-- a stream is 1 to 4
abbrev pub is_stream_number : ℕ → Bool
is_stream_number number = nat_le 1 number && nat_le number 4

abbrev pub is_part_past : MediaPart → Bool
is_part_past (media.Outside p) = is_part_long p
is_part_past (media.Stream number parts) = not (is_stream_number number) || list_any is_part_long parts
is_part_past (media.TerminationState properties) = false

abbrev pub is_past : Descriptor → Bool
is_past (descriptor.Media parts) = list_any is_part_past parts
is_past (descriptor.Keep kind tail) = is_tail_long tail
is_past _ = false

unfoldable pub has_past : List Descriptor → Bool
has_past descriptors = list_any is_past descriptors

-- ---- the first that applies

unfoldable pub check_code : Verb → List Descriptor → Option Code
check_code verb descriptors =
    if has_illegal verb descriptors then Some IllegalDescriptor
    else if has_unknown descriptors then Some UnknownDescriptor
    else if has_twice descriptors then Some DescriptorTwice
    else if has_content_twice descriptors then Some PropertyTwice
    else if has_bad verb descriptors then Some CommandSyntax
    else if has_past descriptors then Some InsufficientResources
    else None
