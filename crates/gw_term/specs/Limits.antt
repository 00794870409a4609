-- How many properties a termination may have (own).
use Rattle.std.specs.Prelude.{◌≤◌, length, Option, None, Some}
use Rattle.gw_term.specs.declared.record.Stream.{Stream}
use Rattle.gw_term.specs.declared.record.Termination.{Termination}
use Rattle.gw_term.specs.Merge.{most_properties}
use Rattle.gw_term.specs.Places.{AtEach}

abbrev pub HasFewIn : Option Stream → Type 0
HasFewIn None = Unit {0}
HasFewIn (Some s) = length s.properties ≤ most_properties

-- in no list of properties too many
pub record HasFew (r : Termination) : Type 0 where
  pub properties : length r.settings.properties ≤ most_properties
  pub streams : AtEach (λ _. HasFewIn) r.settings.streams
