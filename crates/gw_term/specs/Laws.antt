-- Laws of a merge, in words of the record (own): it goes field by field, and what is not named stays.
use Rattle.std.specs.Prelude.{◌≡◌, ℕ, false, List, Option, Some}
use Rattle.std.specs.List.{list_any}
use Rattle.gw_base.specs.declared.command_words.Rules.{Rules}
use Rattle.gw_desc.specs.declared.descriptor.Descriptor.{Descriptor}
use Rattle.gw_desc.specs.declared.descriptor.KeptKind.{KeptKind}
use Rattle.gw_term.specs.declared.record.Stream.{Stream}
use Rattle.gw_term.specs.declared.record.Termination.{Termination}
use Rattle.gw_term.specs.declared.streams.Merging.{Merging}
use Rattle.gw_term.specs.Places.{Between}
use Rattle.gw_term.specs.Record.{tail_of}
use Rattle.gw_term.specs.Merge.{merged_service, merged_properties, merged_stream, merged_tail, stream_in, is_named_in}

-- a stream is what the descriptors make of the old one
abbrev pub IsStreamAfter : Rules → Option ℕ → ℕ → List Descriptor → Option Stream → Option Stream → Type 0
IsStreamAfter rules slot number descriptors old new =
    (m : Option Merging) × (merged_stream rules slot number descriptors old ≡ Some m) × (new ≡ stream_in m)

-- each field of the record after the descriptors, from the same field before and the descriptors alone
pub record GoesByField (rules : Rules) (descriptors : List Descriptor) (old new : Termination) : Type 0 where
  pub place : new.place ≡ old.place
  pub slot : new.slot ≡ old.slot
  pub service : new.service ≡ merged_service descriptors old.service
  pub properties : merged_properties descriptors old.settings.properties ≡ Some new.settings.properties
  pub streams : Between (λ number. IsStreamAfter rules old.slot number descriptors) old.settings.streams new.settings.streams
  pub tails : (kind : KeptKind) → tail_of kind new ≡ merged_tail kind descriptors (tail_of kind old)

-- a stream that no descriptor names
abbrev pub IsUnnamed : ℕ → List Descriptor → Type 0
IsUnnamed number descriptors = list_any (is_named_in number) descriptors ≡ false

-- what is not named stays
abbrev pub StaysUnnamed : List Descriptor → ℕ → Option Stream → Option Stream → Type 0
StaysUnnamed descriptors number old new = IsUnnamed number descriptors → new ≡ old

abbrev pub KeepsUnnamed : List Descriptor → Termination → Termination → Type 0
KeepsUnnamed descriptors old new = Between (StaysUnnamed descriptors) old.settings.streams new.settings.streams
