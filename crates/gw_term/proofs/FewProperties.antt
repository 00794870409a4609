-- A merge leaves no list of properties with too many.
use Rattle.std.proofs.Common.{◌≡◌, ◌≤◌, List, length, Option, Some, arith}
use Rattle.gw_base.specs.declared.command_words.Rules.{Rules}
use Rattle.gw_desc.specs.declared.descriptor.Descriptor.{Descriptor}
use Rattle.gw_term.specs.declared.record.Stream.{Stream}
use Rattle.gw_term.specs.declared.record.Termination.{Termination}
use Rattle.gw_term.specs.Merge.{most_properties, merged}
use Rattle.gw_term.specs.Limits.{HasFew, HasFewIn}
use Rattle.gw_term.specs.Lookups.{IsStreamFound, list_in}
use Rattle.gw_term.proofs.Made.{carried_over}
use Rattle.gw_term.proofs.StreamsFound.{found_after}

few_of : (s : Option Stream) → HasFewIn s → length (list_in s) ≤ most_properties
few_of s h = grind arith

few_in : (s : Option Stream) → length (list_in s) ≤ most_properties → HasFewIn s
few_in s h = grind arith

pub merged_few : (rules : Rules) (descriptors : List Descriptor) (old new : Termination) → HasFew old → merged rules descriptors old ≡ Some new → HasFew new
merged_few rules descriptors old new few h =
    let found = found_after rules descriptors old new h in
    record {
      properties = found.properties.few few.properties;
      streams = carried_over (λ _. HasFewIn) (λ number. IsStreamFound rules old.slot number descriptors) (λ _. HasFewIn)
          (λ number before after was is. few_in after (is.properties.few (few_of before was))) old.settings.streams new.settings.streams few.streams found.streams;
    }
