-- Nothing is merged only where a list would be too long.
use Rattle.std.proofs.Common.{◌≡◌, inl, inr, ℕ, Bool, true, false, List, Option, Some, None, refl, ap, sym, ◌∙◌}
use Rattle.std.specs.List.{list_any, flat_map}
use Rattle.gw_base.specs.declared.command_words.Rules.{Rules}
use Rattle.gw_desc.specs.declared.descriptor.Descriptor.{Descriptor}
use Rattle.gw_desc.specs.declared.descriptor.StreamPart.{StreamPart}
use Rattle.gw_term.specs.declared.record.Stream.{Stream}
use Rattle.gw_term.specs.declared.record.Termination.{Termination}
use Rattle.gw_term.specs.declared.streams.Merging.{Merging}
use Rattle.gw_term.specs.Merge.{each, each_place, put_property, put_part, begun, unnamed, is_named_in, parts_in, states_in, merged_properties, merged_stream, merged_media, with_media, merged}
use Rattle.gw_term.specs.Lookups.{states_sent, controls_sent, list_in, IsTooLong, HasTooLong}
use Rattle.gw_term.proofs.Made.{none_then, none_mapped, at_some, place_not_made}
use Rattle.gw_term.proofs.PropertyLists.{P, too_long}
use Rattle.gw_term.proofs.StreamsFound.{states_are, parts_are, parted}

begun_list : (old : Option Stream) → (begun old).stream.properties ≡ list_in old
begun_list None = refl
begun_list (Some s) = refl

stream_by : (rules : Rules) (slot : Option ℕ) (number : ℕ) (descriptors : List Descriptor) (old : Option Stream) (t : Bool) → list_any (is_named_in number) descriptors ≡ t
    → merged_stream rules slot number descriptors old ≡ None → IsTooLong (controls_sent (flat_map (parts_in number) descriptors)) (list_in old)
unfolding merged_stream
stream_by rules slot number descriptors old true named h =
    let parts : List StreamPart = flat_map (parts_in number) descriptors in
    let none = none_mapped (each (put_part rules slot number) parts (begun old)) (λ m. Some m) (rw named at h) in
    too_long (controls_sent parts) (list_in old) (ap (each put_property (controls_sent parts)) (sym (begun_list old))
    ∙ none_mapped (each put_property (controls_sent parts) (begun old).stream.properties) (parted rules slot number parts (begun old)) (sym (parts_are rules slot number parts (begun old)) ∙ none))
stream_by rules slot number descriptors old false named h = absurd (let clash : Some (unnamed old) ≡ None = rw named at h in cc)

states_too_long : (descriptors : List Descriptor) (old : List P) → merged_properties descriptors old ≡ None → IsTooLong (states_sent descriptors) old
unfolding merged_properties
states_too_long descriptors old h = too_long (states_sent descriptors) old (sym (states_are (flat_map states_in descriptors) old) ∙ h)

media_none : (rules : Rules) (descriptors : List Descriptor) (old : Termination) → merged_media rules descriptors old ≡ None → HasTooLong descriptors old
unfolding merged_media
media_none rules descriptors old h =
    let f : ℕ → Option Stream → Option (Option Merging) = λ number. merged_stream rules old.slot number descriptors in
    elim (none_then (merged_properties descriptors old.settings.properties) _ h) [
      | inl none ↦ inl (states_too_long descriptors old.settings.properties none)
      | inr s ↦ inr (
          at_some (λ number stream. f number stream ≡ None) (λ number stream. IsTooLong (controls_sent (flat_map (parts_in number) descriptors)) (list_in stream))
          (λ number stream. stream_by rules old.slot number descriptors stream (list_any (is_named_in number) descriptors) refl) old.settings.streams
          (place_not_made f old.settings.streams (elim (none_then (each_place f old.settings.streams) _ s.2) [ inl none ↦ none | inr m ↦ absurd (let clash = m.2 in cc) ]))
          )
    ]

pub nothing_merged : (rules : Rules) (descriptors : List Descriptor) (old : Termination) → merged rules descriptors old ≡ None → HasTooLong descriptors old
unfolding merged
nothing_merged rules descriptors old h = media_none rules descriptors old (none_mapped (merged_media rules descriptors old) (with_media descriptors old) h)
