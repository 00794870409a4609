-- A merge told from what descriptors send, gathered once.
use Rattle.std.proofs.Common.{◌≡◌, ℕ, ◌==◌, ◌||◌, if◌then◌else◌, Bool, true, false, List, [], ◌∷◌, ◌++◌, map, Option, Some, None, unwrap_or, Result, Ok, Err, refl, ap, sym, subst, append-nil, append_assoc, ◌∙◌}
use Rattle.std.specs.List.{list_any, filter, flat_map, last_or}
use Rattle.std.specs.Option.{option_map, option_or}
use Rattle.std.proofs.lemmas.List.Elements.{filter-append}
use Rattle.gw_base.specs.declared.command_words.Rules.{Rules}
use Rattle.gw_base.specs.declared.command_words.Service.{Service}
use Rattle.gw_desc.specs.Values.{is_mode, is_service_states, mode_set_by, service_set_by}
use Rattle.gw_desc.specs.declared.descriptor.Descriptor.{Descriptor}
use Rattle.gw_desc.specs.declared.descriptor.KeptKind.{KeptKind}
use Rattle.gw_desc.specs.declared.descriptor.MediaPart.TheVariants as media
use Rattle.gw_desc.specs.declared.descriptor.StreamPart.{StreamPart}
use Rattle.gw_desc.specs.declared.descriptor.StreamPart.TheVariants as part
use Rattle.gw_desc.specs.declared.descriptor.Tail.{Tail}
use Rattle.gw_desc.specs.declared.values.Mode.{Mode}
use Rattle.gw_reply.specs.declared.parts.FilledStream.{FilledStream}
use Rattle.gw_term.specs.declared.apply.Applied.{Applied}
use Rattle.gw_term.specs.declared.fault.ApplyFault.{ApplyFault}
use Rattle.gw_term.specs.declared.fault.ApplyFault.TheVariants as fault
use Rattle.gw_term.specs.declared.gathered.Gathered.{Gathered}
use Rattle.gw_term.specs.declared.gathered.SentMedia.{SentMedia}
use Rattle.gw_term.specs.declared.gathered.SentStream.{SentStream}
use Rattle.gw_term.specs.declared.places.PerStream.{PerStream}
use Rattle.gw_term.specs.declared.record.Stream.{Stream}
use Rattle.gw_term.specs.declared.record.Termination.{Termination}
use Rattle.gw_term.specs.declared.streams.Merging.{Merging}
use Rattle.gw_term.specs.declared.streams.Outcome.{Outcome}
use Rattle.gw_term.specs.Applies.{IsMerged, YieldsApplied}
use Rattle.gw_term.specs.Gathered.{in_turn, with_control, with_part, nothing_sent, named_with, with_stream, with_state, with_media_part, with_descriptor, no_media, media_sent, last_tail, onto, applied, with_merging, with_stream_of, with_streams_of, tail_of_sent, applied_to, IsGathered}
use Rattle.gw_term.specs.Lookups.{tails_sent}
use Rattle.gw_term.specs.Merge.{Media, and_then, each, filled_by, filled_of, put_property, put_control, put_part, begun, filled_in, is_named_in, kept_tail, last_service, media_parts, merged, merged_media, merged_properties, merged_service, merged_stream, merged_tail, names_stream, parts_in, parts_in_part, states_in, states_in_part, stream_in, unnamed, with_media}
use Rattle.gw_term.specs.Places.{at_kind, kinds_read, of_kinds, put_number, rising}
use Rattle.gw_term.specs.Settings.{nothing_set}
use Rattle.gw_term.proofs.Made.{mapped_from, none_mapped}
use Rattle.gw_term.proofs.Merges.{each-append}
use Rattle.gw_term.proofs.PropertyLists.{P}
use Rattle.gw_term.proofs.StreamsFound.{no_part, no_parts_of, not_service, states_are, tail_found}

turns_both : {S X : Type 0} (step : X → S → S) (xs ys : List X) (s : S) → in_turn step (xs ++ ys) s ≡ in_turn step ys (in_turn step xs s)
turns_both step [] ys s = refl
turns_both step (x ∷ xs) ys s = turns_both step xs ys (step x s)

-- ---- a stream after its parts

module _ (rules : Rules) (slot : Option ℕ) (number : ℕ) where
  -- what is put in a stream by a LocalControl
  abbrev controls : List P → Merging → Option Merging
  controls ps m = option_map (λ s. record m { stream = s }) (each put_control ps m.stream)

  mode_step : (p : P) (ps : List P) (s : SentStream) (m : Merging) (o : Option (List P)) → is_mode p.name ≡ true
      → and_then (option_map (onto rules slot number s m) o) (controls (p ∷ ps)) ≡ and_then (option_map (onto rules slot number (record s { mode = option_or (mode_set_by p) s.mode }) m) o) (controls ps)
  mode_step p ps s m None h = refl
  mode_step p ps s m (Some list) h = rw h (by (mode_set_by p))
    where
      n : Merging
      n = onto rules slot number s m list

      later : Option Mode → Merging
      later set = onto rules slot number (record s { mode = option_or set s.mode }) m list

      by : (set : Option Mode) → option_map (λ t. record n { stream = t }) (each put_control ps (record n.stream { mode = unwrap_or set n.stream.mode }))
          ≡ option_map (λ t. record (later set) { stream = t }) (each put_control ps (later set).stream)
      by None = refl
      by (Some mode) = refl

  list_step : (p : P) (ps : List P) (s : SentStream) (m : Merging) (o : Option (List P)) → is_mode p.name ≡ false
      → and_then (option_map (onto rules slot number s m) o) (controls (p ∷ ps))
      ≡ and_then (option_map (onto rules slot number (record s { properties = s.properties ++ p ∷ [] }) m) (and_then o (each put_property (p ∷ [])))) (controls ps)
  list_step p ps s m None h = refl
  list_step p ps s m (Some list) h = rw h (by (put_property p list))
    where
      n : Merging
      n = onto rules slot number s m list

      by : (o : Option (List P)) → option_map (λ t. record n { stream = t }) (and_then (option_map (λ l. record n.stream { properties = l }) o) (each put_control ps))
          ≡ and_then (option_map (onto rules slot number (record s { properties = s.properties ++ p ∷ [] }) m) (and_then o (each put_property []))) (controls ps)
      by None = refl
      by (Some l) = refl

  nothing_more : (s : SentStream) (m : Merging) (o : Option (List P)) → and_then (option_map (onto rules slot number s m) o) (λ n. Some n) ≡ option_map (onto rules slot number s m) o
  nothing_more s m None = refl
  nothing_more s m (Some list) = refl

  controls_step : (ps : List P) (s : SentStream) (m : Merging) → and_then (applied rules slot number s m) (controls ps) ≡ applied rules slot number (in_turn with_control ps s) m
  controls_step [] s m = nothing_more s m (each put_property s.properties m.stream.properties)
  controls_step (p ∷ ps) s m = by (is_mode p.name) refl (λ t. controls_step ps t m)
    where
      put : (t : SentStream) → with_control p s ≡ t → applied rules slot number (in_turn with_control ps t) m ≡ applied rules slot number (in_turn with_control (p ∷ ps) s) m
      put t e = ap (λ (u : SentStream). applied rules slot number (in_turn with_control ps u) m) (sym e)

      by : (t : Bool) → is_mode p.name ≡ t → ((t : SentStream) → and_then (applied rules slot number t m) (controls ps) ≡ applied rules slot number (in_turn with_control ps t) m)
          → and_then (applied rules slot number s m) (controls (p ∷ ps)) ≡ applied rules slot number (in_turn with_control (p ∷ ps) s) m
      by true e rest =
          let other : SentStream = record s { mode = option_or (mode_set_by p) s.mode } in
          mode_step p ps s m (each put_property s.properties m.stream.properties) e ∙ rest other ∙ put other (rw e refl)
      by false e rest =
          let more : SentStream = record s { properties = s.properties ++ p ∷ [] } in
          list_step p ps s m (each put_property s.properties m.stream.properties) e
          ∙ ap (λ (o : Option (List P)). and_then (option_map (onto rules slot number more m) o) (controls ps)) (sym (each-append put_property s.properties (p ∷ []) m.stream.properties))
          ∙ rest more ∙ put more (rw e refl)

  part_step : (p : StreamPart) (s : SentStream) (m : Merging) → and_then (applied rules slot number s m) (put_part rules slot number p) ≡ applied rules slot number (with_part p s) m
  part_step (part.Local text) s m = by (each put_property s.properties m.stream.properties)
    where
      by : (o : Option (List P)) → and_then (option_map (onto rules slot number s m) o) (put_part rules slot number (part.Local text)) ≡ option_map (onto rules slot number (record s { local = Some text }) m) o
      by None = refl
      by (Some list) = refl
  part_step (part.Remote text) s m = by (each put_property s.properties m.stream.properties)
    where
      by : (o : Option (List P)) → and_then (option_map (onto rules slot number s m) o) (put_part rules slot number (part.Remote text)) ≡ option_map (onto rules slot number (record s { remote = Some text }) m) o
      by None = refl
      by (Some list) = refl
  part_step (part.LocalControl ps) s m = controls_step ps s m

  first_of : {S X : Type 0} (step : X → S → Option S) (x : X) (xs : List X) (o : Option S) → and_then o (each step (x ∷ xs)) ≡ and_then (and_then o (step x)) (each step xs)
  first_of step x xs None = refl
  first_of step x xs (Some s) = refl

  parts_step : (ps : List StreamPart) (s : SentStream) (m : Merging) → and_then (applied rules slot number s m) (each (put_part rules slot number) ps) ≡ applied rules slot number (in_turn with_part ps s) m
  parts_step [] s m = nothing_more s m (each put_property s.properties m.stream.properties)
  parts_step (p ∷ ps) s m =
      first_of (put_part rules slot number) p ps (applied rules slot number s m)
      ∙ ap (λ (o : Option Merging). and_then o (each (put_part rules slot number) ps)) (part_step p s m)
      ∙ parts_step ps (with_part p s) m

-- ---- what is sent to the termination's list, and as its service state

abbrev service_by : P → Option Service → Option Service
service_by p s = if is_service_states p.name then option_or (service_set_by p) s else s

-- what properties of TerminationState make of what was sent
abbrev stated : List P → SentMedia → SentMedia
stated ps m = record m { service = in_turn service_by ps m.service; properties = m.properties ++ filter not_service ps }

states_stated : (ps : List P) (m : SentMedia) → in_turn with_state ps m ≡ stated ps m
states_stated [] m = λ i. record m { properties = sym (append-nil m.properties) i }
states_stated (p ∷ ps) m = by (is_service_states p.name) refl (states_stated ps)
  where
    by : (t : Bool) → is_service_states p.name ≡ t → ((n : SentMedia) → in_turn with_state ps n ≡ stated ps n) → in_turn with_state (p ∷ ps) m ≡ stated (p ∷ ps) m
    by true e later = rw e (later (record m { service = option_or (service_set_by p) m.service }))
    by false e later = rw e (later (record m { properties = m.properties ++ p ∷ [] }) ∙ (λ i. record m { service = in_turn service_by ps m.service; properties = append_assoc m.properties (p ∷ []) (filter not_service ps) i }))

-- what a step sends as service states, and to the list
abbrev Sends : {X : Type 0} → (X → SentMedia → SentMedia) → (X → List P) → Type 0
Sends {X} step of = (x : X) (m : SentMedia) → ((step x m).service ≡ in_turn service_by (of x) m.service) × ((step x m).properties ≡ m.properties ++ filter not_service (of x))

all_send : {X : Type 0} (step : X → SentMedia → SentMedia) (of : X → List P) → Sends step of → Sends (in_turn step) (flat_map of)
all_send step of sends [] m = (refl, sym (append-nil m.properties))
all_send step of sends (x ∷ xs) m =
    let one = sends x m in
    let more = all_send step of sends xs (step x m) in (
      more.0 ∙ ap (in_turn service_by (flat_map of xs)) one.0 ∙ sym (turns_both service_by (of x) (flat_map of xs) m.service),
      more.1 ∙ ap (λ (l : List P). l ++ filter not_service (flat_map of xs)) one.1 ∙ append_assoc m.properties (filter not_service (of x)) (filter not_service (flat_map of xs))
          ∙ ap (λ (l : List P). m.properties ++ l) (sym (filter-append not_service (of x) (flat_map of xs))),
    )

part_sends : Sends with_media_part states_in_part
part_sends (media.Outside p) m = (refl, sym (append-nil m.properties))
part_sends (media.Stream number parts) m = (refl, sym (append-nil m.properties))
part_sends (media.TerminationState ps) m = (ap (λ (n : SentMedia). n.service) (states_stated ps m), ap (λ (n : SentMedia). n.properties) (states_stated ps m))

media_sends : Sends (in_turn with_descriptor) (flat_map states_in)
media_sends = all_send with_descriptor states_in (λ d. all_send with_media_part states_in_part part_sends (media_parts d))

service_last : (ps : List P) (s : Option Service) (old : Service) → unwrap_or (in_turn service_by ps s) old ≡ last_service ps (unwrap_or s old)
service_last [] s old = refl
service_last (p ∷ ps) s old = service_last ps (service_by p s) old ∙ ap (last_service ps) (by (is_service_states p.name) (service_set_by p))
  where
    by : (t : Bool) (set : Option Service) → unwrap_or (if t then option_or set s else s) old ≡ (if t then unwrap_or set (unwrap_or s old) else unwrap_or s old)
    by true None = refl
    by true (Some state) = refl
    by false set = refl

service_after : (descriptors : List Descriptor) (old : Service) → unwrap_or (media_sent descriptors).service old ≡ merged_service descriptors old
unfolding merged_service
service_after descriptors old = ap (λ (s : Option Service). unwrap_or s old) (media_sends descriptors no_media).0 ∙ service_last (flat_map states_in descriptors) None old

properties_after : (descriptors : List Descriptor) (old : List P) → each put_property (media_sent descriptors).properties old ≡ merged_properties descriptors old
unfolding merged_properties
properties_after descriptors old = ap (λ (l : List P). each put_property l old) (media_sends descriptors no_media).1 ∙ sym (states_are (flat_map states_in descriptors) old)

-- ---- what is sent to a stream

-- what is sent to the stream of this number, if it is named
abbrev stream_sent : ℕ → List Descriptor → Option SentStream
stream_sent number descriptors = if list_any (is_named_in number) descriptors then named_with (flat_map (parts_in number) descriptors) None else None

module _ (stream : SentMedia → Option SentStream) where
  -- what a step sends to the stream
  abbrev Names : {X : Type 0} → (X → SentMedia → SentMedia) → (X → Bool) → (X → List StreamPart) → Type 0
  Names {X} step test of = (x : X) (m : SentMedia) → stream (step x m) ≡ (if test x then named_with (of x) (stream m) else stream m)

  all_name : {X : Type 0} (step : X → SentMedia → SentMedia) (test : X → Bool) (of : X → List StreamPart) → ((x : X) → test x ≡ false → of x ≡ []) → Names step test of → Names (in_turn step) (list_any test) (flat_map of)
  all_name step test of none names [] m = refl
  all_name step test of none names (x ∷ xs) m =
      all_name step test of none names xs (step x m)
      ∙ ap (λ (s : Option SentStream). if list_any test xs then named_with (flat_map of xs) s else s) (names x m)
      ∙ by (test x) refl (list_any test xs) refl (stream m)
    where
      by : (t : Bool) → test x ≡ t → (u : Bool) → list_any test xs ≡ u → (s : Option SentStream)
          → (if u then named_with (flat_map of xs) (if t then named_with (of x) s else s) else if t then named_with (of x) s else s) ≡ (if t || u then named_with (of x ++ flat_map of xs) s else s)
      by true e true f s = ap Some (sym (turns_both with_part (of x) (flat_map of xs) (unwrap_or s nothing_sent)))
      by true e false f s = rw (no_parts_of test of none xs f, append-nil) refl
      by false e true f s = rw (none x e) refl
      by false e false f s = refl

  module _ (number : ℕ)
      (states : (m : SentMedia) (service : Option Service) (list : List P) → stream (record m { service = service; properties = list }) ≡ stream m)
      (outside : (parts : List StreamPart) (m : SentMedia) → stream (with_stream 1 parts m) ≡ (if number == 1 then named_with parts (stream m) else stream m))
      (numbered : (other : ℕ) (parts : List StreamPart) (m : SentMedia) → stream (with_stream other parts m) ≡ (if other == number then named_with parts (stream m) else stream m))
      (none : stream no_media ≡ None)
    where
      picked : (t : Bool) (parts : List StreamPart) (s : Option SentStream) → (if t then named_with parts s else s) ≡ (if t then named_with (if t then parts else []) s else s)
      picked true parts s = refl
      picked false parts s = refl

      part_names : Names with_media_part (names_stream number) (parts_in_part number)
      part_names (media.Outside p) m = outside (p ∷ []) m ∙ picked (number == 1) (p ∷ []) (stream m)
      part_names (media.Stream other parts) m = numbered other parts m ∙ picked (other == number) parts (stream m)
      part_names (media.TerminationState ps) m = ap stream (states_stated ps m) ∙ states m (in_turn service_by ps m.service) (m.properties ++ filter not_service ps)

      stream_is : (descriptors : List Descriptor) → stream (media_sent descriptors) ≡ stream_sent number descriptors
      stream_is descriptors =
          all_name with_descriptor (is_named_in number) (parts_in number) (λ d. no_parts_of (names_stream number) (parts_in_part number) (no_part number) (media_parts d))
          (λ d. all_name with_media_part (names_stream number) (parts_in_part number) (no_part number) part_names (media_parts d)) descriptors no_media
          ∙ ap (λ (s : Option SentStream). if list_any (is_named_in number) descriptors then named_with (flat_map (parts_in number) descriptors) s else s) none

first_is : (descriptors : List Descriptor) → (media_sent descriptors).first ≡ stream_sent 1 descriptors
first_is = stream_is (λ m. m.first) 1 (λ m s l. refl) (λ parts m. refl) (λ other parts m. refl) refl

second_is : (descriptors : List Descriptor) → (media_sent descriptors).second ≡ stream_sent 2 descriptors
second_is = stream_is (λ m. m.second) 2 (λ m s l. refl) (λ parts m. refl) (λ other parts m. refl) refl

third_is : (descriptors : List Descriptor) → (media_sent descriptors).third ≡ stream_sent 3 descriptors
third_is = stream_is (λ m. m.third) 3 (λ m s l. refl) (λ parts m. refl) (λ other parts m. refl) refl

fourth_is : (descriptors : List Descriptor) → (media_sent descriptors).fourth ≡ stream_sent 4 descriptors
fourth_is = stream_is (λ m. m.fourth) 4 (λ m s l. refl) (λ parts m. refl) (λ other parts m. refl) refl

-- ---- streams after what is sent to them

-- what is set, and a stream, if it is there then
abbrev placed : ℕ → Outcome → Option Merging → Outcome
placed number o m = record {
  settings = record o.settings { streams = put_number number (stream_in m) o.settings.streams };
  filled = o.filled ++ filled_in number m;
}

module _ (rules : Rules) (slot : Option ℕ) (number : ℕ) (descriptors : List Descriptor) (o : Outcome) (fresh : put_number number None o.settings.streams ≡ o.settings.streams) where
  stream_after : (sent : Option SentStream) (old : Option Stream) → sent ≡ stream_sent number descriptors
      → with_stream_of rules slot number sent old o ≡ option_map (placed number o) (merged_stream rules slot number descriptors old)
  unfolding merged_stream
  stream_after sent old is = ap (λ (s : Option SentStream). with_stream_of rules slot number s old o) is ∙ by (list_any (is_named_in number) descriptors) old
    where
      parts : List StreamPart
      parts = flat_map (parts_in number) descriptors

      both : (m : Option Merging) → option_map (λ m. with_merging number m o) m ≡ option_map (placed number o) (option_map (λ m. Some m) m)
      both None = refl
      both (Some m) = refl

      by : (t : Bool) (old : Option Stream) → with_stream_of rules slot number (if t then named_with parts None else None) old o
          ≡ option_map (placed number o) (if t then option_map (λ m. Some m) (each (put_part rules slot number) parts (begun old)) else Some (unnamed old))
      by true old =
          ap (option_map (λ m. with_merging number m o)) (sym (parts_step rules slot number parts nothing_sent (begun old)))
          ∙ both (each (put_part rules slot number) parts (begun old))
      by false None = λ i. Some (record { settings = record o.settings { streams = sym fresh i }; filled = sym (append-nil o.filled) i })
      by false (Some s) = refl

-- one thing after another
next : (x : Option Outcome) (a : Option (Option Merging)) (f : Option Merging → Outcome) (k : Outcome → Option Outcome) (later : Option Merging → Option Outcome)
    → x ≡ option_map f a → ((m : Option Merging) → k (f m) ≡ later m) → and_then x k ≡ and_then a later
next x a f k later e h = ap (λ (y : Option Outcome). and_then y k) e ∙ by a
  where
    by : (a : Option (Option Merging)) → and_then (option_map f a) k ≡ and_then a later
    by None = refl
    by (Some m) = h m

module _ (rules : Rules) (descriptors : List Descriptor) (old : Termination) where
  abbrev of_number : ℕ → Option Stream → Option (Option Merging)
  of_number number stream = merged_stream rules old.slot number descriptors stream

  abbrev before : PerStream (Option Stream)
  before = old.settings.streams

  -- what is set before streams are
  abbrev begun_with : List P → Outcome
  begun_with properties = record {
    settings = record nothing_set { properties = properties; tails = of_kinds (λ kind. merged_tail kind descriptors (at_kind kind old.settings.tails)) };
    filled = [];
  }

  abbrev finished : Outcome → Termination × List FilledStream
  finished o = (record { place = old.place; service = merged_service descriptors old.service; slot = old.slot; settings = o.settings }, o.filled)

  abbrev applied_of : Media → Termination × List FilledStream
  applied_of m = (with_media descriptors old m, rising filled_in m.streams)

  module _ (properties : List P) where
    abbrev o1 : Option Merging → Outcome
    o1 m = placed 1 (begun_with properties) m

    streams_after : with_streams_of rules old.slot (media_sent descriptors) before (begun_with properties)
        ≡ and_then (of_number 1 before.first) (λ a. and_then (of_number 2 before.second) (λ b. and_then (of_number 3 before.third) (λ c. option_map (placed 4 (placed 3 (placed 2 (o1 a) b) c)) (of_number 4 before.fourth))))
    streams_after =
        next _ (of_number 1 before.first) o1 _ _ (stream_after rules old.slot 1 descriptors (begun_with properties) refl _ before.first (first_is descriptors)) (λ a.
        next _ (of_number 2 before.second) (placed 2 (o1 a)) _ _ (stream_after rules old.slot 2 descriptors (o1 a) refl _ before.second (second_is descriptors)) (λ b.
        next _ (of_number 3 before.third) (placed 3 (placed 2 (o1 a) b)) _ _ (stream_after rules old.slot 3 descriptors (placed 2 (o1 a) b) refl _ before.third (third_is descriptors)) (λ c.
        stream_after rules old.slot 4 descriptors (placed 3 (placed 2 (o1 a) b) c) refl _ before.fourth (fourth_is descriptors))))

    finishes : (a b c d : Option (Option Merging)) → option_map finished (and_then a (λ a. and_then b (λ b. and_then c (λ c. option_map (placed 4 (placed 3 (placed 2 (o1 a) b) c)) d))))
        ≡ option_map applied_of (and_then (and_then a (λ first. and_then b (λ second. and_then c (λ third. and_then d (λ fourth. Some (let x : PerStream (Option Merging) = record { first = first; second = second; third = third; fourth = fourth } in x))))))
        (λ streams. Some (let x : Media = record { properties = properties; streams = streams } in x)))
    finishes None b c d = refl
    finishes (Some a) None c d = refl
    finishes (Some a) (Some b) None d = refl
    finishes (Some a) (Some b) (Some c) None = refl
    finishes (Some a) (Some b) (Some c) (Some d) = refl

  tail_after : (kind : KeptKind) → tail_of_sent (last_tail kind descriptors) (at_kind kind old.settings.tails) ≡ merged_tail kind descriptors (at_kind kind old.settings.tails)
  tail_after kind =
      let is : Some (merged_tail kind descriptors (at_kind kind old.settings.tails)) ≡ Some (tail_of_sent (last_tail kind descriptors) (at_kind kind old.settings.tails)) =
      tail_found kind descriptors (at_kind kind old.settings.tails) ∙ by (tails_sent kind descriptors) None in
      sym cc
    where
      by : (tails : List (Tail (List ℕ))) (last : Option (Tail (List ℕ))) → last_or (Some (tail_of_sent last (at_kind kind old.settings.tails))) (map kept_tail tails) ≡ Some (tail_of_sent (last_or last tails) (at_kind kind old.settings.tails))
      by [] last = refl
      by (t ∷ ts) last = by ts (Some t)

  applied_is : applied_to old rules (media_sent descriptors) (of_kinds (λ kind. last_tail kind descriptors)) ≡ option_map applied_of (merged_media rules descriptors old)
  unfolding merged_media
  applied_is =
      (λ i. option_map (λ o. (record { place = old.place; service = service_after descriptors old.service i; slot = old.slot; settings = o.settings }, o.filled))
      (and_then (properties_after descriptors old.settings.properties i) (λ properties.
      with_streams_of rules old.slot (media_sent descriptors) before (record { settings = record nothing_set { properties = properties; tails = of_kinds (λ kind. tail_after kind i) }; filled = [] }))))
      ∙ by (merged_properties descriptors old.settings.properties)
    where
      by : (o : Option (List P)) → option_map finished (and_then o (λ properties. with_streams_of rules old.slot (media_sent descriptors) before (begun_with properties)))
          ≡ option_map applied_of (and_then o (λ properties. and_then (and_then (of_number 1 before.first) (λ first. and_then (of_number 2 before.second) (λ second. and_then (of_number 3 before.third) (λ third. and_then (of_number 4 before.fourth) (λ fourth.
          Some (let x : PerStream (Option Merging) = record { first = first; second = second; third = third; fourth = fourth } in x))))))
          (λ streams. Some (let x : Media = record { properties = properties; streams = streams } in x))))
      by None = refl
      by (Some properties) = ap (option_map finished) (streams_after properties) ∙ finishes properties (of_number 1 before.first) (of_number 2 before.second) (of_number 3 before.third) (of_number 4 before.fourth)

  pub merged_is : (g : Gathered) (result : Result Applied ApplyFault) → IsGathered descriptors g → YieldsApplied result (applied_to old rules g.media (kinds_read g.tails)) → IsMerged rules descriptors old result
  unfolding merged filled_by
  merged_is g result gathered yields = by result (subst (YieldsApplied result) (λ i. applied_to old rules (gathered.media i) (gathered.tails i)) yields)
    where
      by : (result : Result Applied ApplyFault) → YieldsApplied result (applied_to old rules (media_sent descriptors) (of_kinds (λ kind. last_tail kind descriptors))) → IsMerged rules descriptors old result
      by (Ok a) h =
          let found = mapped_from (merged_media rules descriptors old) applied_of (a.record, a.filled) (sym applied_is ∙ h) in (
            ap (option_map (with_media descriptors old)) found.1 ∙ ap (λ (x : Termination × List FilledStream). Some x.0) (sym found.2),
            ap (λ (x : Termination × List FilledStream). x.1) found.2 ∙ ap filled_of (sym found.1),
          )
      by (Err (fault.Code code)) h = (h.0, ap (option_map (with_media descriptors old)) (none_mapped (merged_media rules descriptors old) applied_of (sym applied_is ∙ h.1)))
      by (Err fault.NoMemory) h = tt
