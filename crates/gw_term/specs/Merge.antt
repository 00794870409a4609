-- What descriptors do to a termination, field by field (RFC 3525, sections 7.1.4 to 7.1.7; how it merges: own). Read
-- for descriptors with which nothing is wrong: of which no code applies.
use Rattle.std.specs.Prelude.{ℕ, ◌==◌, nat_lt, Bool, true, false, not, ◌&&◌, if◌then◌else◌, List, [], ◌∷◌, ◌++◌, length, bytes_eq, codes, slice_set, Option, Some, None}
use Rattle.std.specs.List.{list_any, flat_map, position_or_len}
use Rattle.std.specs.Option.{option_map, unwrap_or}
use Rattle.gw_base.specs.declared.command_words.Rules.{Rules}
use Rattle.gw_base.specs.declared.command_words.Service.{Service}
use Rattle.gw_text.specs.SpaceScan.{skip}
use Rattle.gw_text.specs.Tokens.{is_same_word}
use Rattle.gw_desc.specs.Checks.{same_kept}
use Rattle.gw_desc.specs.Fill.{filled, is_fillable}
use Rattle.gw_desc.specs.Values.{is_mode, is_service_states, mode_set_by, service_set_by}
use Rattle.gw_desc.specs.declared.descriptor.Descriptor.{Descriptor}
use Rattle.gw_desc.specs.declared.descriptor.Descriptor.TheVariants as descriptor
use Rattle.gw_desc.specs.declared.descriptor.KeptKind.{KeptKind}
use Rattle.gw_desc.specs.declared.descriptor.MediaPart.{MediaPart}
use Rattle.gw_desc.specs.declared.descriptor.MediaPart.TheVariants as media
use Rattle.gw_desc.specs.declared.descriptor.StreamPart.{StreamPart}
use Rattle.gw_desc.specs.declared.descriptor.StreamPart.TheVariants as part
use Rattle.gw_desc.specs.declared.descriptor.Property.{Property}
use Rattle.gw_desc.specs.declared.descriptor.Tail.{Tail}
use Rattle.gw_reply.specs.declared.parts.FilledStream.{FilledStream}
use Rattle.gw_term.specs.declared.record.Stream.{Stream}
use Rattle.gw_term.specs.declared.record.Termination.{Termination}
use Rattle.gw_term.specs.declared.streams.Merging.{Merging}
use Rattle.gw_term.specs.Places.{numbered, at_number, rising, of_kinds, at_kind}
use Rattle.gw_term.specs.Record.{new_stream}
use Rattle.gw_term.specs.declared.places.PerStream.{PerStream}

-- what follows, if there is a value
abbrev pub and_then : {S T : Type 0} → Option S → (S → Option T) → Option T
and_then None next = None
and_then (Some s) next = next s

-- one after the other, unless one of them cannot be done
abbrev pub each : {S X : Type 0} → (X → S → Option S) → List X → S → Option S
each step [] s = Some s
each step (x ∷ xs) s = and_then (step x s) (each step xs)

-- what is made of each place in turn, unless that of one of them cannot be made
abbrev pub each_place : {S T : Type 0} → (ℕ → S → Option T) → PerStream S → Option (PerStream T)
each_place f p =
    and_then (f 1 p.first) (λ first. and_then (f 2 p.second) (λ second. and_then (f 3 p.third) (λ third. and_then (f 4 p.fourth) (λ fourth.
    Some (record { first = first; second = second; third = third; fourth = fourth })))))

-- ---- properties

-- how many properties a list may hold (own)
abbrev pub most_properties : ℕ
most_properties = 32

-- the place of the property of this name, in any case, or the length of the list
abbrev pub property_place : List ℕ → List (Property (List ℕ)) → ℕ
property_place name list = position_or_len (λ q. is_same_word q.name name) list

-- the property in the place of the one of its name, or last; none where that would be too many
abbrev pub put_property : Property (List ℕ) → List (Property (List ℕ)) → Option (List (Property (List ℕ)))
put_property p list =
    if nat_lt (property_place p.name list) (length list) then Some (slice_set list (property_place p.name list) p)
    else if nat_lt (length list) most_properties then Some (list ++ p ∷ []) else None

-- ---- TerminationState

-- the parts of a Media
abbrev pub media_parts : Descriptor → List MediaPart
media_parts (descriptor.Media parts) = parts
media_parts _ = []

-- the properties of the TerminationStates
abbrev pub states_in_part : MediaPart → List (Property (List ℕ))
states_in_part (media.TerminationState properties) = properties
states_in_part _ = []

abbrev pub states_in : Descriptor → List (Property (List ℕ))
states_in d = flat_map states_in_part (media_parts d)

-- ServiceStates is no property of the list
abbrev pub put_state : Property (List ℕ) → List (Property (List ℕ)) → Option (List (Property (List ℕ)))
put_state p list = if is_service_states p.name then Some list else put_property p list

-- the service state after a property
abbrev pub service_after : Property (List ℕ) → Service → Service
service_after p old = if is_service_states p.name then unwrap_or (service_set_by p) old else old

abbrev pub last_service : List (Property (List ℕ)) → Service → Service
last_service [] old = old
last_service (p ∷ ps) old = last_service ps (service_after p old)

-- the service state after the descriptors
unfoldable pub merged_service : List Descriptor → Service → Service
merged_service descriptors old = last_service (flat_map states_in descriptors) old

-- the properties after them
unfoldable pub merged_properties : List Descriptor → List (Property (List ℕ)) → Option (List (Property (List ℕ)))
merged_properties descriptors old = each put_state (flat_map states_in descriptors) old

-- ---- streams

-- the parts of a stream; those outside a Stream are of stream 1
abbrev pub parts_in_part : ℕ → MediaPart → List StreamPart
parts_in_part number (media.Outside p) = if number == 1 then p ∷ [] else []
parts_in_part number (media.Stream other parts) = if other == number then parts else []
parts_in_part number (media.TerminationState properties) = []

abbrev pub parts_in : ℕ → Descriptor → List StreamPart
parts_in number d = flat_map (parts_in_part number) (media_parts d)

-- the stream is named
abbrev pub names_stream : ℕ → MediaPart → Bool
names_stream number (media.Outside p) = number == 1
names_stream number (media.Stream other parts) = other == number
names_stream number (media.TerminationState properties) = false

abbrev pub is_named_in : ℕ → Descriptor → Bool
is_named_in number d = list_any (names_stream number) (media_parts d)

-- a stream after a property of its LocalControl
abbrev pub put_control : Property (List ℕ) → Stream → Option Stream
put_control p s =
    if is_mode p.name then Some (record s { mode = unwrap_or (mode_set_by p) s.mode })
    else option_map (λ list. record s { properties = list }) (put_property p s.properties)

-- a Local, filled where the termination has a slot
abbrev pub local_text : Rules → Option ℕ → ℕ → List ℕ → List ℕ
local_text rules None number text = text
local_text rules (Some slot) number text = filled rules.media slot number text

abbrev pub is_filled : Option ℕ → List ℕ → Bool
is_filled None text = false
is_filled (Some slot) text = is_fillable text

-- a stream after a part, and whether its Local was filled
abbrev pub put_part : Rules → Option ℕ → ℕ → StreamPart → Merging → Option Merging
put_part rules slot number (part.Local text) m =
    Some (record { stream = record m.stream { local = Some (local_text rules slot number text) }; filled = is_filled slot text })
put_part rules slot number (part.Remote text) m = Some (record m { stream = record m.stream { remote = Some text } })
put_part rules slot number (part.LocalControl properties) m = option_map (λ s. record m { stream = s }) (each put_control properties m.stream)

-- a stream, or a new one where there was none
abbrev pub begun : Option Stream → Merging
begun old = record { stream = unwrap_or old new_stream; filled = false }

abbrev pub unnamed : Option Stream → Option Merging
unnamed old = option_map (λ s. record { stream = s; filled = false }) old

-- the stream of this number after the descriptors
unfoldable pub merged_stream : Rules → Option ℕ → ℕ → List Descriptor → Option Stream → Option (Option Merging)
merged_stream rules slot number descriptors old =
    if list_any (is_named_in number) descriptors
    then option_map (λ m. Some m) (each (put_part rules slot number) (flat_map (parts_in number) descriptors) (begun old))
    else Some (unnamed old)

-- ---- tails

-- nothing but white space between its braces
abbrev pub has_blank_inside : List ℕ → Bool
has_blank_inside [] = false
has_blank_inside (brace ∷ inside) = bytes_eq (skip inside) (codes "}")

-- no group, or such a one
abbrev pub is_blank_group : Option (List ℕ) → Bool
is_blank_group None = true
is_blank_group (Some group) = has_blank_inside group

-- what is kept of a tail: nothing of one without `=` that has no group, or a blank one
abbrev pub kept_tail : Tail (List ℕ) → Option (Tail (List ℕ))
kept_tail tail = if not tail.equals && is_blank_group tail.group then None else Some tail

abbrev pub tail_after : KeptKind → Descriptor → Option (Tail (List ℕ)) → Option (Tail (List ℕ))
tail_after kind (descriptor.Keep other tail) old = if same_kept kind other then kept_tail tail else old
tail_after kind _ old = old

-- the tail of this kind after the descriptors
abbrev pub merged_tail : KeptKind → List Descriptor → Option (Tail (List ℕ)) → Option (Tail (List ℕ))
merged_tail kind [] old = old
merged_tail kind (d ∷ ds) old = merged_tail kind ds (tail_after kind d old)

-- ---- the whole

-- what can be too much: the properties, and each stream, after a merge
pub record Media : Type 0 where
  pub properties : List (Property (List ℕ))
  pub streams : PerStream (Option Merging)

-- these after the descriptors
unfoldable pub merged_media : Rules → List Descriptor → Termination → Option Media
merged_media rules descriptors r =
    and_then (merged_properties descriptors r.settings.properties) (λ properties.
    and_then (each_place (λ number. merged_stream rules r.slot number descriptors) r.settings.streams) (λ streams.
    Some (record { properties = properties; streams = streams })))

abbrev pub stream_in : Option Merging → Option Stream
stream_in m = option_map (λ m. m.stream) m

abbrev pub with_media : List Descriptor → Termination → Media → Termination
with_media descriptors r m = record {
  place = r.place;
  service = merged_service descriptors r.service;
  slot = r.slot;
  settings = record {
    properties = m.properties;
    streams = numbered (λ number. stream_in (at_number number m.streams));
    tails = of_kinds (λ kind. merged_tail kind descriptors (at_kind kind r.settings.tails));
  };
}

-- the termination after the descriptors; none where a list would hold too many properties
unfoldable pub merged : Rules → List Descriptor → Termination → Option Termination
merged rules descriptors r = option_map (with_media descriptors r) (merged_media rules descriptors r)

-- ---- what was filled

abbrev pub local_if : ℕ → Option (List ℕ) → List FilledStream
local_if number None = []
local_if number (Some text) = (record { number = number; local = text }) ∷ []

abbrev pub filled_in : ℕ → Option Merging → List FilledStream
filled_in number None = []
filled_in number (Some m) = if m.filled then local_if number m.stream.local else []

abbrev pub filled_of : Option Media → List FilledStream
filled_of None = []
filled_of (Some m) = rising filled_in m.streams

-- the streams whose Local was filled, in rising order
unfoldable pub filled_by : Rules → List Descriptor → Termination → List FilledStream
filled_by rules descriptors r = filled_of (merged_media rules descriptors r)
