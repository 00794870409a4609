-- A merge by its fields.
use Rattle.std.proofs.Common.{◌≡◌, ℕ, List, Option, Some, None, refl, ap, sym, subst, ◌∙◌}
use Rattle.gw_base.specs.declared.command_words.Rules.{Rules}
use Rattle.gw_desc.specs.declared.descriptor.Descriptor.{Descriptor}
use Rattle.gw_desc.specs.declared.descriptor.KeptKind.{KeptKind}
use Rattle.gw_desc.specs.declared.descriptor.KeptKind.TheVariants.{Events, Signals, DigitMap, EventBuffer}
use Rattle.gw_term.specs.declared.record.Stream.{Stream}
use Rattle.gw_term.specs.declared.record.Termination.{Termination}
use Rattle.gw_term.specs.Record.{tail_of}
use Rattle.gw_term.specs.declared.streams.Merging.{Merging}
use Rattle.gw_term.specs.declared.places.PerStream.{PerStream}
use Rattle.gw_term.specs.Places.{numbered, at_number, Between}
use Rattle.gw_term.specs.Merge.{Media, each_place, merged, merged_media, merged_properties, merged_stream, merged_tail, stream_in, unnamed, with_media}
use Rattle.gw_term.specs.Laws.{GoesByField, KeepsUnnamed, IsStreamAfter, StaysUnnamed}
use Rattle.gw_term.proofs.Made.{first_then, mapped_from, places_made, between}

-- the parts of a media
pub record AreParts (rules : Rules) (descriptors : List Descriptor) (old : Termination) (m : Media) : Type 0 where
  pub properties : merged_properties descriptors old.settings.properties ≡ Some m.properties
  pub streams : Between (λ number before after. merged_stream rules old.slot number descriptors before ≡ Some after) old.settings.streams m.streams

pub parts_are : (rules : Rules) (descriptors : List Descriptor) (old : Termination) (m : Media) → merged_media rules descriptors old ≡ Some m → AreParts rules descriptors old m
unfolding merged_media
parts_are rules descriptors old m h =
    let streams : PerStream (Option Stream) → Option (PerStream (Option Merging)) = each_place (λ number. merged_stream rules old.slot number descriptors) in
    let a = first_then (merged_properties descriptors old.settings.properties) _ m h in
    let b = first_then (streams old.settings.streams) _ m a.2 in
    let whole = b.2 in
    record {
      properties = a.1 ∙ ap Some cc;
      streams = places_made (λ number. merged_stream rules old.slot number descriptors) old.settings.streams m.streams (b.1 ∙ ap Some cc);
    }

streams_after : (rules : Rules) (slot : Option ℕ) (descriptors : List Descriptor) (old : PerStream (Option Stream)) (m : PerStream (Option Merging))
    → Between (λ number before after. merged_stream rules slot number descriptors before ≡ Some after) old m
    → Between (λ number. IsStreamAfter rules slot number descriptors) old (numbered (λ number. stream_in (at_number number m)))
streams_after rules slot descriptors old m h = record {
  first = (m.first, h.first, refl);
  second = (m.second, h.second, refl);
  third = (m.third, h.third, refl);
  fourth = (m.fourth, h.fourth, refl);
}

tails_are : (descriptors : List Descriptor) (old : Termination) (m : Media) (kind : KeptKind) → tail_of kind (with_media descriptors old m) ≡ merged_tail kind descriptors (tail_of kind old)
tails_are descriptors old m Events = refl
tails_are descriptors old m Signals = refl
tails_are descriptors old m DigitMap = refl
tails_are descriptors old m EventBuffer = refl

pub by_field : (rules : Rules) (descriptors : List Descriptor) (old new : Termination) → merged rules descriptors old ≡ Some new → GoesByField rules descriptors old new
unfolding merged
by_field rules descriptors old new h =
    let found = mapped_from (merged_media rules descriptors old) (with_media descriptors old) new h in
    let m = found.0 in
    let p = parts_are rules descriptors old m found.1 in
    subst (GoesByField rules descriptors old) (sym found.2) (record {
      place = refl;
      slot = refl;
      service = refl;
      properties = p.properties;
      streams = streams_after rules old.slot descriptors old.settings.streams m.streams p.streams;
      tails = tails_are descriptors old m;
    })

pub same_unnamed : (old : Option Stream) → stream_in (unnamed old) ≡ old
same_unnamed None = refl
same_unnamed (Some s) = refl

stays : (rules : Rules) (slot : Option ℕ) (descriptors : List Descriptor) (number : ℕ) (old new : Option Stream) → IsStreamAfter rules slot number descriptors old new → StaysUnnamed descriptors number old new
unfolding merged_stream
stays rules slot descriptors number old new after none =
    let same : Some (unnamed old) ≡ Some after.0 = rw none at after.1 in
    let e : unnamed old ≡ after.0 = cc in
    after.2 ∙ ap stream_in (sym e) ∙ same_unnamed old

pub keeps_unnamed : (rules : Rules) (descriptors : List Descriptor) (old new : Termination) → merged rules descriptors old ≡ Some new → KeepsUnnamed descriptors old new
keeps_unnamed rules descriptors old new h =
    between (λ number. IsStreamAfter rules old.slot number descriptors) (StaysUnnamed descriptors) (stays rules old.slot descriptors) old.settings.streams new.settings.streams
    (by_field rules descriptors old new h).streams
