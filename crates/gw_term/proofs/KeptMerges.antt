-- What is kept has its form after a merge too.
use Rattle.std.proofs.Common.{◌≡◌, ℕ, Bool, true, false, not, ◌&&◌, ◌==◌, cond, List, [], ◌∷◌, ◌++◌, length, map, Option, Some, None, refl, sym, ◌∙◌, subst}
use Rattle.std.specs.Prelude.{slice_set, nat_lt}
use Rattle.std.specs.List.{All, filter, flat_map, last_or}
use Rattle.std.proofs.lemmas.List.Elements.{All-nil, All-cons, All-head, All-tail, All-filter, All-set, All-push}
use Rattle.gw_base.specs.Addresses.{IsAddress}
use Rattle.gw_base.specs.declared.ids.CtxNum.{CtxNum}
use Rattle.gw_base.specs.declared.command_words.Rules.{Rules}
use Rattle.gw_base.specs.declared.command_words.Service.{Service}
use Rattle.gw_desc.specs.Checks.{same_kept}
use Rattle.gw_desc.specs.Values.{is_mode, is_service_states}
use Rattle.gw_desc.specs.KeptTexts.{IsOptional, IsKeptProperty, IsKeptTail, IsKeptOctets, HasKeptParts, HasKeptMedia, HasKeptTexts}
use Rattle.gw_desc.specs.declared.descriptor.Descriptor.{Descriptor}
use Rattle.gw_desc.specs.declared.descriptor.Descriptor.TheVariants as descriptor
use Rattle.gw_desc.specs.declared.descriptor.KeptKind.{KeptKind}
use Rattle.gw_desc.specs.declared.descriptor.KeptKind.TheVariants.{Events, Signals, DigitMap, EventBuffer}
use Rattle.gw_desc.specs.declared.descriptor.MediaPart.{MediaPart}
use Rattle.gw_desc.specs.declared.descriptor.MediaPart.TheVariants as media
use Rattle.gw_desc.specs.declared.descriptor.StreamPart.{StreamPart}
use Rattle.gw_desc.specs.declared.descriptor.StreamPart.TheVariants as part
use Rattle.gw_desc.specs.declared.descriptor.Property.{Property}
use Rattle.gw_desc.specs.declared.descriptor.Tail.{Tail}
use Rattle.gw_desc.proofs.FillKept.{all_kept}
use Rattle.gw_reply.specs.KeptParts.{IsKeptFilled}
use Rattle.gw_term.specs.declared.record.Stream.{Stream}
use Rattle.gw_term.specs.declared.record.Termination.{Termination}
use Rattle.gw_term.specs.declared.streams.Merging.{Merging}
use Rattle.gw_term.specs.Record.{unset, placed, serviced, tail_of}
use Rattle.gw_term.specs.Merge.{Media, each, most_properties, property_place, put_property, local_text, stream_in, media_parts, states_in_part, states_in, parts_in_part, parts_in, merged_properties, merged_stream, merged_tail, tail_after, kept_tail, is_blank_group, merged_media, merged, local_if, filled_in, filled_of, filled_by}
use Rattle.gw_term.specs.Laws.{IsStreamAfter}
use Rattle.gw_term.specs.KeptRecords.{IsKeptStream, IsKeptRecord}
use Rattle.gw_term.specs.Lookups.{controls_in, locals_in, remotes_in, controls_sent, list_in, local_in, remote_in}
use Rattle.gw_term.proofs.ByField.{by_field, parts_are}
use Rattle.gw_term.proofs.Made.{first_then, all_of, carried_over, all_rising}
use Rattle.gw_term.proofs.StreamsFound.{states_are, stream_made}

abbrev P : Type 0
P = Property (List ℕ)

abbrev AreKept : List P → Type 0
AreKept = All IsKeptProperty

-- where each step keeps a form, all of them do
each_keeps : {S X : Type 0} (step : X → S → Option S) (IsForm : S → Type 0) (IsGood : X → Type 0) → ((x : X) (s t : S) → IsGood x → IsForm s → step x s ≡ Some t → IsForm t)
    → (xs : List X) (s t : S) → All IsGood xs → IsForm s → each step xs s ≡ Some t → IsForm t
each_keeps step IsForm IsGood keeps [] s t good form h = let same : s ≡ t = cc in subst IsForm same form
each_keeps step IsForm IsGood keeps (x ∷ xs) s t good form h =
    let one = first_then (step x s) (each step xs) t h in
    each_keeps step IsForm IsGood keeps xs one.0 t (All-tail IsGood x xs good) (keeps x s one.0 (All-head IsGood x xs good) form one.1) one.2

last_keeps : {T : Type 0} (IsForm : T → Type 0) (old : Option T) (sent : List T) → IsOptional IsForm old → All IsForm sent → IsOptional IsForm (last_or old sent)
last_keeps IsForm old [] form good = form
last_keeps IsForm old (t ∷ ts) form good = last_keeps IsForm (Some t) ts (All-head IsForm t ts good) (All-tail IsForm t ts good)

maps_keep : {S T : Type 0} (IsGood : S → Type 0) (IsForm : T → Type 0) (f : S → T) → ((s : S) → IsGood s → IsForm (f s)) → (ss : List S) → All IsGood ss → All IsForm (map f ss)
maps_keep IsGood IsForm f keeps [] good = All-nil IsForm
maps_keep IsGood IsForm f keeps (s ∷ ss) good = All-cons IsForm (f s) (map f ss) (keeps s (All-head IsGood s ss good)) (maps_keep IsGood IsForm f keeps ss (All-tail IsGood s ss good))

-- ---- properties

property_keeps : (p : P) (list new : List P) → IsKeptProperty p → AreKept list → put_property p list ≡ Some new → AreKept new
property_keeps p list new good form h = by (nat_lt (property_place p.name list) (length list)) (nat_lt (length list) most_properties) h
  where
    by : (t u : Bool) → cond t (Some (slice_set list (property_place p.name list) p)) (cond u (Some (list ++ p ∷ [])) None) ≡ Some new → AreKept new
    by true u k = let same : slice_set list (property_place p.name list) p ≡ new = cc in subst AreKept same (All-set IsKeptProperty list (property_place p.name list) p good form)
    by false true k = let same : list ++ p ∷ [] ≡ new = cc in subst AreKept same (All-push IsKeptProperty list p form good)
    by false false k = absurd cc

states_of_part : (p : MediaPart) → HasKeptMedia p → AreKept (states_in_part p)
states_of_part (media.TerminationState properties) h = h
states_of_part (media.Outside p) h = All-nil IsKeptProperty
states_of_part (media.Stream number parts) h = All-nil IsKeptProperty

parts_of : (d : Descriptor) → HasKeptTexts d → All HasKeptMedia (media_parts d)
parts_of (descriptor.Media parts) h = h
parts_of (descriptor.Keep kind tail) h = All-nil HasKeptMedia
parts_of (descriptor.Audit words) h = All-nil HasKeptMedia
parts_of (descriptor.Services parms) h = All-nil HasKeptMedia
parts_of (descriptor.Other word) h = All-nil HasKeptMedia

states_of : (d : Descriptor) → HasKeptTexts d → AreKept (states_in d)
states_of d h = all_of states_in_part HasKeptMedia IsKeptProperty states_of_part (media_parts d) (parts_of d h)

properties_keep : (descriptors : List Descriptor) (old new : List P) → All HasKeptTexts descriptors → AreKept old → merged_properties descriptors old ≡ Some new → AreKept new
unfolding merged_properties
properties_keep descriptors old new good form h =
    let sent : List P = flat_map states_in descriptors in
    each_keeps put_property AreKept IsKeptProperty property_keeps (filter (λ p. not (is_service_states p.name)) sent) old new
    (All-filter (λ p. not (is_service_states p.name)) IsKeptProperty sent (all_of states_in HasKeptTexts IsKeptProperty states_of descriptors good)) form (sym (states_are sent old) ∙ h)

-- ---- streams

local_keeps : (rules : Rules) (slot : Option ℕ) (number : ℕ) → IsAddress rules.media → (text : List ℕ) → IsKeptOctets text → IsKeptOctets (local_text rules slot number text)
local_keeps rules None number a text k = k
local_keeps rules (Some slot) number a text k = all_kept rules.media slot number text a k

parts_of_part : (number : ℕ) (p : MediaPart) → HasKeptMedia p → All HasKeptParts (parts_in_part number p)
parts_of_part number (media.Outside p) h = by (number == 1)
  where
    by : (t : Bool) → All HasKeptParts (cond t (p ∷ []) [])
    by true = All-cons HasKeptParts p [] h (All-nil HasKeptParts)
    by false = All-nil HasKeptParts
parts_of_part number (media.Stream other parts) h = by (other == number)
  where
    by : (t : Bool) → All HasKeptParts (cond t parts [])
    by true = h
    by false = All-nil HasKeptParts
parts_of_part number (media.TerminationState properties) h = All-nil HasKeptParts

parts_in_of : (number : ℕ) (d : Descriptor) → HasKeptTexts d → All HasKeptParts (parts_in number d)
parts_in_of number d h = all_of (parts_in_part number) HasKeptMedia HasKeptParts (parts_of_part number) (media_parts d) (parts_of d h)

controls_of : (p : StreamPart) → HasKeptParts p → AreKept (controls_in p)
controls_of (part.LocalControl properties) h = h
controls_of (part.Local text) h = All-nil IsKeptProperty
controls_of (part.Remote text) h = All-nil IsKeptProperty

locals_of : (p : StreamPart) → HasKeptParts p → All IsKeptOctets (locals_in p)
locals_of (part.LocalControl properties) h = All-nil IsKeptOctets
locals_of (part.Local text) h = All-cons IsKeptOctets text [] h (All-nil IsKeptOctets)
locals_of (part.Remote text) h = All-nil IsKeptOctets

remotes_of : (p : StreamPart) → HasKeptParts p → All IsKeptOctets (remotes_in p)
remotes_of (part.LocalControl properties) h = All-nil IsKeptOctets
remotes_of (part.Local text) h = All-nil IsKeptOctets
remotes_of (part.Remote text) h = All-cons IsKeptOctets text [] h (All-nil IsKeptOctets)

-- what a stream has, there or not
record IsKeptInside (s : Option Stream) : Type 0 where
  properties : AreKept (list_in s)
  local : IsOptional IsKeptOctets (local_in s)
  remote : IsOptional IsKeptOctets (remote_in s)

inside : (s : Option Stream) → IsOptional IsKeptStream s → IsKeptInside s
inside None h = record { properties = All-nil IsKeptProperty; local = tt; remote = tt }
inside (Some s) h = record { properties = h.properties; local = h.local; remote = h.remote }

outside : (s : Option Stream) → IsKeptInside s → IsOptional IsKeptStream s
outside None h = tt
outside (Some s) h = record { properties = h.properties; local = h.local; remote = h.remote }

stream_keeps : (rules : Rules) (slot : Option ℕ) (number : ℕ) (descriptors : List Descriptor) (old new : Option Stream)
    → IsAddress rules.media → All HasKeptTexts descriptors → IsOptional IsKeptStream old → IsStreamAfter rules slot number descriptors old new → IsOptional IsKeptStream new
stream_keeps rules slot number descriptors old new a good form after =
    let parts : List StreamPart = flat_map (parts_in number) descriptors in
    let made = (stream_made rules slot number descriptors old new after).0 in
    let was = inside old form in
    let sent : All HasKeptParts parts = all_of (parts_in number) HasKeptTexts HasKeptParts (parts_in_of number) descriptors good in
    outside new (record {
      properties = each_keeps put_property AreKept IsKeptProperty property_keeps (controls_sent parts) (list_in old) (list_in new)
          (All-filter (λ p. not (is_mode p.name)) IsKeptProperty (flat_map controls_in parts) (all_of controls_in HasKeptParts IsKeptProperty controls_of parts sent)) was.properties made.properties;
      local = subst (IsOptional IsKeptOctets) (sym made.local) (last_keeps IsKeptOctets (local_in old) (map (local_text rules slot number) (flat_map locals_in parts)) was.local
          (maps_keep IsKeptOctets IsKeptOctets (local_text rules slot number) (local_keeps rules slot number a) (flat_map locals_in parts) (all_of locals_in HasKeptParts IsKeptOctets locals_of parts sent)));
      remote = subst (IsOptional IsKeptOctets) (sym made.remote) (last_keeps IsKeptOctets (remote_in old) (flat_map remotes_in parts) was.remote (all_of remotes_in HasKeptParts IsKeptOctets remotes_of parts sent));
    })

-- ---- tails

abbrev Kept : Type 0
Kept = Option (Tail (List ℕ))

kept_tail_keeps : (tail : Tail (List ℕ)) → IsKeptTail tail → IsOptional IsKeptTail (kept_tail tail)
kept_tail_keeps tail h = by (not tail.equals && is_blank_group tail.group)
  where
    by : (t : Bool) → IsOptional IsKeptTail (cond t None (Some tail))
    by true = tt
    by false = h

after_keeps : (kind : KeptKind) (d : Descriptor) (old : Kept) → HasKeptTexts d → IsOptional IsKeptTail old → IsOptional IsKeptTail (tail_after kind d old)
after_keeps kind (descriptor.Keep other tail) old h form = by (same_kept kind other)
  where
    by : (t : Bool) → IsOptional IsKeptTail (cond t (kept_tail tail) old)
    by true = kept_tail_keeps tail h
    by false = form
after_keeps kind (descriptor.Media parts) old h form = form
after_keeps kind (descriptor.Audit words) old h form = form
after_keeps kind (descriptor.Services parms) old h form = form
after_keeps kind (descriptor.Other word) old h form = form

tail_keeps : (kind : KeptKind) (descriptors : List Descriptor) (old : Kept) → All HasKeptTexts descriptors → IsOptional IsKeptTail old → IsOptional IsKeptTail (merged_tail kind descriptors old)
tail_keeps kind [] old good form = form
tail_keeps kind (d ∷ ds) old good form = tail_keeps kind ds (tail_after kind d old) (All-tail HasKeptTexts d ds good) (after_keeps kind d old (All-head HasKeptTexts d ds good) form)

-- ---- the whole

pub merge_keeps : (rules : Rules) (descriptors : List Descriptor) (old new : Termination) → IsAddress rules.media → All HasKeptTexts descriptors → IsKeptRecord old → merged rules descriptors old ≡ Some new → IsKeptRecord new
merge_keeps rules descriptors old new a good form h =
    let f = by_field rules descriptors old new h in
    record {
      properties = properties_keep descriptors old.settings.properties new.settings.properties good form.properties f.properties;
      streams = carried_over (λ _. IsOptional IsKeptStream) (λ number. IsStreamAfter rules old.slot number descriptors) (λ _. IsOptional IsKeptStream)
          (λ number before after was is. stream_keeps rules old.slot number descriptors before after a good was is) old.settings.streams new.settings.streams form.streams f.streams;
      tails = λ kind. subst (IsOptional IsKeptTail) (sym (f.tails kind)) (tail_keeps kind descriptors (tail_of kind old) good (form.tails kind));
    }

-- ---- what was filled

local_filled : (number : ℕ) (local : Option (List ℕ)) → IsOptional IsKeptOctets local → All IsKeptFilled (local_if number local)
local_filled number None h = All-nil IsKeptFilled
local_filled number (Some text) h = All-cons IsKeptFilled (record { number = number; local = text }) [] h (All-nil IsKeptFilled)

in_filled : (number : ℕ) (m : Option Merging) → IsOptional IsKeptStream (stream_in m) → All IsKeptFilled (filled_in number m)
in_filled number None h = All-nil IsKeptFilled
in_filled number (Some m) h = by m.filled
  where
    by : (t : Bool) → All IsKeptFilled (cond t (local_if number m.stream.local) [])
    by true = local_filled number m.stream.local h.local
    by false = All-nil IsKeptFilled

filled_by_media : (rules : Rules) (descriptors : List Descriptor) (old : Termination) (o : Option Media) → merged_media rules descriptors old ≡ o → IsAddress rules.media → All HasKeptTexts descriptors → IsKeptRecord old → All IsKeptFilled (filled_of o)
filled_by_media rules descriptors old None is a good form = All-nil IsKeptFilled
filled_by_media rules descriptors old (Some m) is a good form =
    all_rising filled_in (λ _ after. IsOptional IsKeptStream (stream_in after)) IsKeptFilled in_filled m.streams
    (carried_over (λ _. IsOptional IsKeptStream) (λ number before after. merged_stream rules old.slot number descriptors before ≡ Some after) (λ _ after. IsOptional IsKeptStream (stream_in after))
    (λ number before after was made. stream_keeps rules old.slot number descriptors before (stream_in after) a good was (after, made, refl)) old.settings.streams m.streams form.streams (parts_are rules descriptors old m is).streams)

pub fills_keep : (rules : Rules) (descriptors : List Descriptor) (old : Termination) → IsAddress rules.media → All HasKeptTexts descriptors → IsKeptRecord old → All IsKeptFilled (filled_by rules descriptors old)
unfolding filled_by
fills_keep rules descriptors old a good form = filled_by_media rules descriptors old (merged_media rules descriptors old) refl a good form

-- ---- where nothing was set

no_tail : (place : Option CtxNum) (service : Service) (slot : Option ℕ) (kind : KeptKind) → IsOptional IsKeptTail (tail_of kind (unset place service slot))
no_tail place state slot Events = tt
no_tail place state slot Signals = tt
no_tail place state slot DigitMap = tt
no_tail place state slot EventBuffer = tt

pub nothing_kept : (place : Option CtxNum) (service : Service) (slot : Option ℕ) → IsKeptRecord (unset place service slot)
nothing_kept place state slot = record { properties = All-nil IsKeptProperty; streams = record { first = tt; second = tt; third = tt; fourth = tt }; tails = no_tail place state slot }

-- ---- elsewhere, and in another service state

pub placed_kept : (r : Termination) (place : Option CtxNum) → IsKeptRecord r → IsKeptRecord (placed r place)
placed_kept r place h = record { properties = h.properties; streams = h.streams; tails = h.tails }

pub serviced_kept : (r : Termination) (state : Service) → IsKeptRecord r → IsKeptRecord (serviced r state)
serviced_kept r state h = record { properties = h.properties; streams = h.streams; tails = h.tails }
