-- What descriptors send to each list and to each stream (own): of each kind the last, and the properties in order. A
-- merge is found from it alone.
use Rattle.std.specs.Prelude.{◌≡◌, ℕ, ◌==◌, Bool, if◌then◌else◌, List, [], ◌∷◌, ◌++◌, Option, Some, None}
use Rattle.std.specs.List.{last_or}
use Rattle.std.specs.Option.{option_map, option_or, unwrap_or}
use Rattle.gw_base.specs.declared.command_words.Rules.{Rules}
use Rattle.gw_desc.specs.Values.{is_mode, is_service_states, mode_set_by, service_set_by}
use Rattle.gw_desc.specs.declared.descriptor.Descriptor.{Descriptor}
use Rattle.gw_desc.specs.declared.descriptor.KeptKind.{KeptKind}
use Rattle.gw_desc.specs.declared.descriptor.MediaPart.{MediaPart}
use Rattle.gw_desc.specs.declared.descriptor.MediaPart.TheVariants as media
use Rattle.gw_desc.specs.declared.descriptor.Property.{Property}
use Rattle.gw_desc.specs.declared.descriptor.StreamPart.{StreamPart}
use Rattle.gw_desc.specs.declared.descriptor.StreamPart.TheVariants as part
use Rattle.gw_desc.specs.declared.descriptor.Tail.{Tail}
use Rattle.gw_reply.specs.declared.parts.FilledStream.{FilledStream}
use Rattle.gw_term.specs.declared.gathered.Gathered.{Gathered}
use Rattle.gw_term.specs.declared.gathered.SentMedia.{SentMedia}
use Rattle.gw_term.specs.declared.gathered.SentStream.{SentStream}
use Rattle.gw_term.specs.declared.places.PerKind.{PerKind}
use Rattle.gw_term.specs.declared.places.PerStream.{PerStream}
use Rattle.gw_term.specs.declared.record.Stream.{Stream}
use Rattle.gw_term.specs.declared.record.Termination.{Termination}
use Rattle.gw_term.specs.declared.settings.Setting.TheVariants as setting
use Rattle.gw_term.specs.declared.streams.Merging.{Merging}
use Rattle.gw_term.specs.declared.streams.Outcome.{Outcome}
use Rattle.gw_term.specs.Lookups.{tails_sent}
use Rattle.gw_term.specs.Merge.{and_then, each, put_property, local_text, is_filled, begun, filled_in, kept_tail, media_parts}
use Rattle.gw_term.specs.Places.{of_kinds, at_kind, kinds_read}
use Rattle.gw_term.specs.Settings.{Settings, nothing_set, with_setting}

-- what each makes in turn of what those before it made
abbrev pub in_turn : {S X : Type 0} → (X → S → S) → List X → S → S
in_turn step [] s = s
in_turn step (x ∷ xs) s = in_turn step xs (step x s)

-- ---- what is sent

-- what was sent, and a property of a LocalControl
abbrev pub with_control : Property (List ℕ) → SentStream → SentStream
with_control p s =
    if is_mode p.name then record s { mode = option_or (mode_set_by p) s.mode }
    else record s { properties = s.properties ++ p ∷ [] }

-- what was sent, and a part of the stream
abbrev pub with_part : StreamPart → SentStream → SentStream
with_part (part.Local text) s = record s { local = Some text }
with_part (part.Remote text) s = record s { remote = Some text }
with_part (part.LocalControl properties) s = in_turn with_control properties s

abbrev pub nothing_sent : SentStream
nothing_sent = record { mode = None; properties = []; local = None; remote = None }

-- what is sent to a stream that is named, and these parts of it
abbrev pub named_with : List StreamPart → Option SentStream → Option SentStream
named_with parts sent = Some (in_turn with_part parts (unwrap_or sent nothing_sent))

-- what was sent, and these parts of the stream of this number
abbrev pub with_stream : ℕ → List StreamPart → SentMedia → SentMedia
with_stream number parts m = record m {
  first = if number == 1 then named_with parts m.first else m.first;
  second = if number == 2 then named_with parts m.second else m.second;
  third = if number == 3 then named_with parts m.third else m.third;
  fourth = if number == 4 then named_with parts m.fourth else m.fourth;
}

-- what was sent, and a property of a TerminationState
abbrev pub with_state : Property (List ℕ) → SentMedia → SentMedia
with_state p m =
    if is_service_states p.name then record m { service = option_or (service_set_by p) m.service }
    else record m { properties = m.properties ++ p ∷ [] }

-- what was sent, and a part of a Media
abbrev pub with_media_part : MediaPart → SentMedia → SentMedia
with_media_part (media.Outside p) m = with_stream 1 (p ∷ []) m
with_media_part (media.Stream number parts) m = with_stream number parts m
with_media_part (media.TerminationState properties) m = in_turn with_state properties m

abbrev pub with_descriptor : Descriptor → SentMedia → SentMedia
with_descriptor d m = in_turn with_media_part (media_parts d) m

abbrev pub no_media : SentMedia
no_media = record { service = None; properties = []; first = None; second = None; third = None; fourth = None }

-- what the Medias of descriptors send
abbrev pub media_sent : List Descriptor → SentMedia
media_sent descriptors = in_turn with_descriptor descriptors no_media

-- the last tail of this kind that is sent
abbrev pub last_tail : KeptKind → List Descriptor → Option (Tail (List ℕ))
last_tail kind descriptors = last_or None (tails_sent kind descriptors)

pub record IsGathered (descriptors : List Descriptor) (g : Gathered) : Type 0 where
  pub media : g.media ≡ media_sent descriptors
  pub tails : kinds_read g.tails ≡ of_kinds (λ kind. last_tail kind descriptors)

-- ---- a stream after what is sent to it

abbrev pub local_after : Rules → Option ℕ → ℕ → (sent old : Option (List ℕ)) → Option (List ℕ)
local_after rules slot number None old = old
local_after rules slot number (Some text) old = Some (local_text rules slot number text)

abbrev pub filled_after : Option ℕ → Option (List ℕ) → Bool → Bool
filled_after slot None old = old
filled_after slot (Some text) old = is_filled slot text

abbrev pub remote_after : (sent old : Option (List ℕ)) → Option (List ℕ)
remote_after None old = old
remote_after (Some text) old = Some text

abbrev pub onto : Rules → Option ℕ → ℕ → SentStream → Merging → List (Property (List ℕ)) → Merging
onto rules slot number s m list = record {
  stream = record {
    mode = unwrap_or s.mode m.stream.mode;
    properties = list;
    local = local_after rules slot number s.local m.stream.local;
    remote = remote_after s.remote m.stream.remote;
  };
  filled = filled_after slot s.local m.filled;
}

abbrev pub applied : Rules → Option ℕ → ℕ → SentStream → Merging → Option Merging
applied rules slot number s m = option_map (onto rules slot number s m) (each put_property s.properties m.stream.properties)

-- what is set, and a stream; its Local goes last where it was filled
abbrev pub with_merging : ℕ → Merging → Outcome → Outcome
with_merging number m o = record {
  settings = with_setting (setting.Stream number m.stream) o.settings;
  filled = o.filled ++ filled_in number (Some m);
}

-- the same of what is sent to a stream and what it was; one that is neither named nor there stays so
abbrev pub with_stream_of : Rules → Option ℕ → ℕ → Option SentStream → Option Stream → Outcome → Option Outcome
with_stream_of rules slot number (Some sent) old o = option_map (λ m. with_merging number m o) (applied rules slot number sent (begun old))
with_stream_of rules slot number None (Some old) o = option_map (λ m. with_merging number m o) (applied rules slot number nothing_sent (begun (Some old)))
with_stream_of rules slot number None None o = Some o

abbrev pub with_streams_of : Rules → Option ℕ → SentMedia → PerStream (Option Stream) → Outcome → Option Outcome
with_streams_of rules slot m old o =
    and_then (with_stream_of rules slot 1 m.first old.first o) (λ o.
    and_then (with_stream_of rules slot 2 m.second old.second o) (λ o.
    and_then (with_stream_of rules slot 3 m.third old.third o) (with_stream_of rules slot 4 m.fourth old.fourth)))

-- ---- a tail, and the whole

abbrev pub tail_of_sent : (sent old : Option (Tail (List ℕ))) → Option (Tail (List ℕ))
tail_of_sent None old = old
tail_of_sent (Some tail) old = kept_tail tail

abbrev pub tails_after : (sent old : PerKind (Option (Tail (List ℕ)))) → PerKind (Option (Tail (List ℕ)))
tails_after sent old = of_kinds (λ kind. tail_of_sent (at_kind kind sent) (at_kind kind old))

-- what is set where this was, and the streams whose Local was filled
abbrev pub outcome_of : Rules → Option ℕ → SentMedia → PerKind (Option (Tail (List ℕ))) → Settings → Option Outcome
outcome_of rules slot m tails old =
    and_then (each put_property m.properties old.properties) (λ properties.
    with_streams_of rules slot m old.streams (record {
      settings = record nothing_set { properties = properties; tails = tails_after tails old.tails };
      filled = [];
    }))

-- a record after what is sent, and the streams whose Local was filled
abbrev pub applied_to : Termination → Rules → SentMedia → PerKind (Option (Tail (List ℕ))) → Option (Termination × List FilledStream)
applied_to old rules m tails =
    option_map (λ o. (record { place = old.place; service = unwrap_or m.service old.service; slot = old.slot; settings = o.settings }, o.filled))
    (outcome_of rules old.slot m tails old.settings)

-- ---- what was made once

-- the same of what descriptors send
abbrev pub outcome_by : Rules → List Descriptor → Option ℕ → Settings → Option Outcome
outcome_by rules descriptors slot old = outcome_of rules slot (media_sent descriptors) (of_kinds (λ kind. last_tail kind descriptors)) old

-- what the descriptors make of these settings without a slot, which is to fill nothing
abbrev pub IsMadeOf : Rules → List Descriptor → (before after : Settings) → Type 0
IsMadeOf rules descriptors before after = outcome_by rules descriptors None before ≡ Some (record { settings = after; filled = [] })

-- they make the same whatever the slot
abbrev pub IsForEachSlot : Rules → List Descriptor → Type 0
IsForEachSlot rules descriptors = (slot : Option ℕ) (old : Settings) → outcome_by rules descriptors slot old ≡ outcome_by rules descriptors None old
