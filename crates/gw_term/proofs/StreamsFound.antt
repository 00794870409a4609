-- What a merge makes of each thing, in terms of what was put in its list and of what was sent for it last.
use Rattle.std.proofs.Common.{◌≡◌, ℕ, Bool, true, false, not, ◌||◌, cond, if◌then◌else◌, List, [], ◌∷◌, ◌++◌, map, Option, Some, None, is_some, unwrap_or, refl, ap, sym, ◌∙◌, subst}
use Rattle.std.specs.List.{list_any, filter, filter_map, cons_option, flat_map, last_or}
use Rattle.std.specs.Option.{option_map}
use Rattle.std.proofs.lemmas.Bool.{or_parts}
use Rattle.std.proofs.lemmas.List.Elements.{filter-append}
use Rattle.gw_base.specs.declared.command_words.Rules.{Rules}
use Rattle.gw_base.specs.declared.command_words.Service.{Service}
use Rattle.gw_desc.specs.Checks.{same_kept}
use Rattle.gw_desc.specs.Values.{is_mode, is_service_states, mode_set_by, service_set_by}
use Rattle.gw_desc.specs.declared.descriptor.Descriptor.{Descriptor}
use Rattle.gw_desc.specs.declared.descriptor.Descriptor.TheVariants as descriptor
use Rattle.gw_desc.specs.declared.descriptor.KeptKind.{KeptKind}
use Rattle.gw_desc.specs.declared.descriptor.MediaPart.{MediaPart}
use Rattle.gw_desc.specs.declared.descriptor.MediaPart.TheVariants as media
use Rattle.gw_desc.specs.declared.descriptor.StreamPart.{StreamPart}
use Rattle.gw_desc.specs.declared.descriptor.StreamPart.TheVariants as part
use Rattle.gw_desc.specs.declared.descriptor.Tail.{Tail}
use Rattle.gw_desc.specs.declared.values.Mode.{Mode}
use Rattle.gw_term.specs.declared.record.Stream.{Stream}
use Rattle.gw_term.specs.declared.record.Termination.{Termination}
use Rattle.gw_term.specs.declared.streams.Merging.{Merging}
use Rattle.gw_term.specs.Record.{tail_of}
use Rattle.gw_term.specs.Merge.{and_then, each, put_property, put_state, put_control, put_part, local_text, is_filled, begun, unnamed, stream_in, names_stream, is_named_in, media_parts, parts_in_part, parts_in, states_in, last_service, merged_service, merged_properties, merged_stream, merged_tail, kept_tail, merged}
use Rattle.gw_term.specs.Laws.{IsStreamAfter}
use Rattle.gw_term.specs.Lookups.{states_sent, service_of_property, controls_in, locals_in, remotes_in, controls_sent, mode_by, modes_sent, tails_sent, list_in, mode_in, local_in, remote_in, IsStreamFound, IsFoundAfter}
use Rattle.gw_term.proofs.ByField.{by_field, same_unnamed}
use Rattle.gw_term.proofs.Made.{mapped_from, between}
use Rattle.gw_term.proofs.Merges.{each-append}
use Rattle.gw_term.proofs.PropertyLists.{P, after_puts}

-- a value set, or none
last_set : {T : Type 0} (set : Option T) (old : T) (rest : List T) → last_or (Some (unwrap_or set old)) rest ≡ last_or (Some old) (cons_option set rest)
last_set None old rest = refl
last_set (Some t) old rest = refl

-- ---- the service state, and the termination's list

service_found : (ps : List P) (old : Service) → Some (last_service ps old) ≡ last_or (Some old) (filter_map service_of_property ps)
service_found [] old = refl
service_found (p ∷ ps) old = by (is_service_states p.name) (service_found ps)
  where
    by : (t : Bool) → ((s : Service) → Some (last_service ps s) ≡ last_or (Some s) (filter_map service_of_property ps))
        → Some (last_service ps (cond t (unwrap_or (service_set_by p) old) old)) ≡ last_or (Some old) (cons_option (cond t (service_set_by p) None) (filter_map service_of_property ps))
    by true rest = rest (unwrap_or (service_set_by p) old) ∙ last_set (service_set_by p) old (filter_map service_of_property ps)
    by false rest = rest old

abbrev pub not_service : P → Bool
not_service p = not (is_service_states p.name)

-- states are put as the properties among them
pub states_are : (ps list : List P) → each put_state ps list ≡ each put_property (filter not_service ps) list
states_are [] list = refl
states_are (p ∷ ps) list = by (is_service_states p.name) refl (states_are ps)
  where
    by : (t : Bool) → is_service_states p.name ≡ t → ((l : List P) → each put_state ps l ≡ each put_property (filter not_service ps) l) → each put_state (p ∷ ps) list ≡ each put_property (filter not_service (p ∷ ps)) list
    by true e rest = rw e (rest list)
    by false e rest = rw e (λ i. and_then (put_property p list) (λ l. rest l i))

-- ---- the properties of a LocalControl

abbrev last_mode : List P → Mode → Mode
last_mode [] old = old
last_mode (p ∷ ps) old = last_mode ps (if is_mode p.name then unwrap_or (mode_set_by p) old else old)

mode_found : (ps : List P) (old : Mode) → Some (last_mode ps old) ≡ last_or (Some old) (filter_map mode_by ps)
mode_found [] old = refl
mode_found (p ∷ ps) old = by (is_mode p.name) (mode_found ps)
  where
    by : (t : Bool) → ((m : Mode) → Some (last_mode ps m) ≡ last_or (Some m) (filter_map mode_by ps))
        → Some (last_mode ps (cond t (unwrap_or (mode_set_by p) old) old)) ≡ last_or (Some old) (cons_option (cond t (mode_set_by p) None) (filter_map mode_by ps))
    by true rest = rest (unwrap_or (mode_set_by p) old) ∙ last_set (mode_set_by p) old (filter_map mode_by ps)
    by false rest = rest old

modes_both : (xs ys : List P) (old : Mode) → last_mode (xs ++ ys) old ≡ last_mode ys (last_mode xs old)
modes_both [] ys old = refl
modes_both (x ∷ xs) ys old = modes_both xs ys _

abbrev not_mode : P → Bool
not_mode p = not (is_mode p.name)

abbrev controlled : List P → Stream → List P → Stream
controlled ps s list = record s { mode = last_mode ps s.mode; properties = list }

abbrev AreControls : List P → Stream → Type 0
AreControls ps s = each put_control ps s ≡ option_map (controlled ps s) (each put_property (filter not_mode ps) s.properties)

-- controls are put as the properties among them, and the last mode
controls_are : (ps : List P) (s : Stream) → AreControls ps s
controls_are [] s = refl
controls_are (p ∷ ps) s = by (is_mode p.name) (controls_are ps)
  where
    later : ((t : Stream) → AreControls ps t) → (o : Option (List P)) → and_then (option_map (λ list. record s { properties = list }) o) (each put_control ps) ≡ option_map (controlled ps s) (and_then o (each put_property (filter not_mode ps)))
    later rest None = refl
    later rest (Some list) = rest (record s { properties = list })

    by : (t : Bool) → ((t : Stream) → AreControls ps t)
        → and_then (cond t (Some (record s { mode = unwrap_or (mode_set_by p) s.mode })) (option_map (λ list. record s { properties = list }) (put_property p s.properties))) (each put_control ps)
        ≡ option_map (λ list. record s { mode = last_mode ps (cond t (unwrap_or (mode_set_by p) s.mode) s.mode); properties = list }) (each put_property (cond (not t) (p ∷ filter not_mode ps) (filter not_mode ps)) s.properties)
    by true rest = rest (record s { mode = unwrap_or (mode_set_by p) s.mode })
    by false rest = later rest (put_property p s.properties)

-- ---- the parts of a stream

module _ (rules : Rules) (slot : Option ℕ) (number : ℕ) where
  abbrev last_filled : List StreamPart → Bool → Bool
  last_filled [] old = old
  last_filled (part.Local text ∷ parts) old = last_filled parts (is_filled slot text)
  last_filled (part.Remote text ∷ parts) old = last_filled parts old
  last_filled (part.LocalControl ps ∷ parts) old = last_filled parts old

  abbrev in_mode : Mode → List StreamPart → Merging → List P → Merging
  in_mode mode parts m list = record {
    stream = record {
      mode = mode;
      properties = list;
      local = last_or m.stream.local (map (local_text rules slot number) (flat_map locals_in parts));
      remote = last_or m.stream.remote (flat_map remotes_in parts);
    };
    filled = last_filled parts m.filled;
  }

  abbrev pub parted : List StreamPart → Merging → List P → Merging
  parted parts m = in_mode (last_mode (flat_map controls_in parts) m.stream.mode) parts m

  abbrev AreParts : List StreamPart → Merging → Type 0
  AreParts parts m = each (put_part rules slot number) parts m ≡ option_map (parted parts m) (each put_property (controls_sent parts) m.stream.properties)

  -- parts are put as the properties among them, the last mode, and the last texts
  pub parts_are : (parts : List StreamPart) (m : Merging) → AreParts parts m
  parts_are [] m = refl
  parts_are (part.Local text ∷ parts) m = parts_are parts (record { stream = record m.stream { local = Some (local_text rules slot number text) }; filled = is_filled slot text })
  parts_are (part.Remote text ∷ parts) m = parts_are parts (record m { stream = record m.stream { remote = Some text } })
  parts_are (part.LocalControl ps ∷ parts) m =
      let more : List P = flat_map controls_in parts in
      ap (λ (o : Option Stream). and_then (option_map (λ s. record m { stream = s }) o) (each (put_part rules slot number) parts)) (controls_are ps m.stream)
      ∙ later (parts_are parts) (each put_property (filter not_mode ps) m.stream.properties)
      ∙ ap (option_map (parted (part.LocalControl ps ∷ parts) m))
      (sym (ap (λ (l : List P). each put_property l m.stream.properties) (filter-append not_mode ps more) ∙ each-append put_property (filter not_mode ps) (filter not_mode more) m.stream.properties))
    where
      later : ((n : Merging) → AreParts parts n) → (o : Option (List P)) → and_then (option_map (λ s. record m { stream = s }) (option_map (controlled ps m.stream) o)) (each (put_part rules slot number) parts)
          ≡ option_map (parted (part.LocalControl ps ∷ parts) m) (and_then o (each put_property (controls_sent parts)))
      later rest None = refl
      later rest (Some list) =
          rest (record m { stream = controlled ps m.stream list })
          ∙ ap (λ (mode : Mode). option_map (in_mode mode parts m) (each put_property (controls_sent parts) list)) (sym (modes_both ps (flat_map controls_in parts) m.stream.mode))

-- ---- a stream that is not named

pub no_part : (number : ℕ) (p : MediaPart) → names_stream number p ≡ false → parts_in_part number p ≡ []
no_part number (media.Outside p) h = rw h refl
no_part number (media.Stream other parts) h = rw h refl
no_part number (media.TerminationState properties) h = refl

pub no_parts_of : {X Y : Type 0} (test : X → Bool) (of : X → List Y) → ((x : X) → test x ≡ false → of x ≡ []) → (xs : List X) → list_any test xs ≡ false → flat_map of xs ≡ []
no_parts_of test of none [] h = refl
no_parts_of test of none (x ∷ xs) h =
    let parts = or_parts (test x) (list_any test xs) h in
    rw (none x parts.0, no_parts_of test of none xs parts.1) refl

pub no_parts : (number : ℕ) (descriptors : List Descriptor) → list_any (is_named_in number) descriptors ≡ false → flat_map (parts_in number) descriptors ≡ []
no_parts number = no_parts_of (is_named_in number) (parts_in number) (λ d. no_parts_of (names_stream number) (parts_in_part number) (no_part number) (media_parts d))

-- ---- a stream

-- what the parts that were sent for it make of a stream
pub record IsStreamMade (rules : Rules) (slot : Option ℕ) (number : ℕ) (parts : List StreamPart) (old new : Option Stream) : Type 0 where
  pub properties : each put_property (controls_sent parts) (list_in old) ≡ Some (list_in new)
  pub mode : Some (mode_in new) ≡ last_or (Some (mode_in old)) (modes_sent parts)
  pub local : local_in new ≡ last_or (local_in old) (map (local_text rules slot number) (flat_map locals_in parts))
  pub remote : remote_in new ≡ last_or (remote_in old) (flat_map remotes_in parts)

named_made : (rules : Rules) (slot : Option ℕ) (number : ℕ) (parts : List StreamPart) (old : Option Stream) (m : Merging) → each (put_part rules slot number) parts (begun old) ≡ Some m
    → IsStreamMade rules slot number parts old (Some m.stream)
named_made rules slot number parts old m h =
    let one = mapped_from (each put_property (controls_sent parts) (begun old).stream.properties) (parted rules slot number parts (begun old)) m (sym (parts_are rules slot number parts (begun old)) ∙ h) in
    subst (λ (n : Merging). IsStreamMade rules slot number parts old (Some n.stream)) (sym one.2) (of old one.0 one.1)
  where
    of : (o : Option Stream) → (list : List P) → each put_property (controls_sent parts) (begun o).stream.properties ≡ Some list → IsStreamMade rules slot number parts o (Some (parted rules slot number parts (begun o) list).stream)
    of None list e = record { properties = e; mode = mode_found (flat_map controls_in parts) _; local = refl; remote = refl }
    of (Some s) list e = record { properties = e; mode = mode_found (flat_map controls_in parts) _; local = refl; remote = refl }

or_true : (t : Bool) → t || true ≡ true
or_true true = refl
or_true false = refl

or_false : (t : Bool) → t || false ≡ t
or_false true = refl
or_false false = refl

abbrev IsMadeThere : Rules → Option ℕ → ℕ → List Descriptor → Option Stream → Bool → Option Stream → Type 0
IsMadeThere rules slot number descriptors old named new = IsStreamMade rules slot number (flat_map (parts_in number) descriptors) old new × (is_some new ≡ (is_some old || named))

stream_by : (rules : Rules) (slot : Option ℕ) (number : ℕ) (descriptors : List Descriptor) (old new : Option Stream) (t : Bool) → list_any (is_named_in number) descriptors ≡ t
    → IsStreamAfter rules slot number descriptors old new → IsMadeThere rules slot number descriptors old t new
unfolding merged_stream
stream_by rules slot number descriptors old new true named after =
    let one = mapped_from (each (put_part rules slot number) (flat_map (parts_in number) descriptors) (begun old)) (λ m. Some m) after.0 (rw named at after.1) in
    subst (IsMadeThere rules slot number descriptors old true) (sym (after.2 ∙ ap stream_in one.2))
    (named_made rules slot number (flat_map (parts_in number) descriptors) old one.0 one.1, sym (or_true (is_some old)))
stream_by rules slot number descriptors old new false named after =
    let same : Some (unnamed old) ≡ Some after.0 = rw named at after.1 in
    let e : unnamed old ≡ after.0 = cc in
    subst (IsMadeThere rules slot number descriptors old false) (sym (after.2 ∙ ap stream_in (sym e) ∙ same_unnamed old)) (
      subst (λ (parts : List StreamPart). IsStreamMade rules slot number parts old old) (sym (no_parts number descriptors named))
          (record { properties = refl; mode = refl; local = refl; remote = refl }),
      sym (or_false (is_some old)),
    )

pub stream_made : (rules : Rules) (slot : Option ℕ) (number : ℕ) (descriptors : List Descriptor) (old new : Option Stream) → IsStreamAfter rules slot number descriptors old new
    → IsMadeThere rules slot number descriptors old (list_any (is_named_in number) descriptors) new
stream_made rules slot number descriptors old new after = stream_by rules slot number descriptors old new (list_any (is_named_in number) descriptors) refl after

stream_found : (rules : Rules) (slot : Option ℕ) (number : ℕ) (descriptors : List Descriptor) (old new : Option Stream) → IsStreamAfter rules slot number descriptors old new → IsStreamFound rules slot number descriptors old new
stream_found rules slot number descriptors old new after =
    let made = stream_made rules slot number descriptors old new after in
    record {
      there = made.1;
      properties = after_puts (controls_sent (flat_map (parts_in number) descriptors)) (list_in old) (list_in new) made.0.properties;
      mode = made.0.mode;
      local = made.0.local;
      remote = made.0.remote;
    }

-- ---- tails

abbrev Kept : Type 0
Kept = Option (Tail (List ℕ))

pub tail_found : (kind : KeptKind) (descriptors : List Descriptor) (old : Kept) → Some (merged_tail kind descriptors old) ≡ last_or (Some old) (map kept_tail (tails_sent kind descriptors))
tail_found kind [] old = refl
tail_found kind (descriptor.Keep other tail ∷ ds) old = by (same_kept kind other) (tail_found kind ds)
  where
    by : (t : Bool) → ((o : Kept) → Some (merged_tail kind ds o) ≡ last_or (Some o) (map kept_tail (tails_sent kind ds)))
        → Some (merged_tail kind ds (cond t (kept_tail tail) old)) ≡ last_or (Some old) (map kept_tail (cons_option (cond t (Some tail) None) (tails_sent kind ds)))
    by true rest = rest (kept_tail tail)
    by false rest = rest old
tail_found kind (descriptor.Media parts ∷ ds) old = tail_found kind ds old
tail_found kind (descriptor.Audit words ∷ ds) old = tail_found kind ds old
tail_found kind (descriptor.Services parms ∷ ds) old = tail_found kind ds old
tail_found kind (descriptor.Other word ∷ ds) old = tail_found kind ds old

-- ---- the whole

pub found_after : (rules : Rules) (descriptors : List Descriptor) (old new : Termination) → merged rules descriptors old ≡ Some new → IsFoundAfter rules descriptors old new
unfolding merged_service merged_properties
found_after rules descriptors old new h =
    let f = by_field rules descriptors old new h in
    let sent : List P = flat_map states_in descriptors in
    record {
      service = ap (λ (s : Service). Some s) f.service ∙ service_found sent old.service;
      properties = after_puts (states_sent descriptors) old.settings.properties new.settings.properties (sym (states_are sent old.settings.properties) ∙ f.properties);
      streams = between (λ number. IsStreamAfter rules old.slot number descriptors) (λ number. IsStreamFound rules old.slot number descriptors) (λ number. stream_found rules old.slot number descriptors)
          old.settings.streams new.settings.streams f.streams;
      tails = λ kind. ap (λ (t : Kept). Some t) (f.tails kind) ∙ tail_found kind descriptors (tail_of kind old);
    }
