-- Tables into which configured names are put, in whatever order (own).
use Rattle.std.specs.Prelude.{◌≡◌, ℕ, true, List, Option, None, Some}
use Rattle.std.specs.FinMap as finite
use Rattle.gw_base.specs.NameLists.{is_in}
use Rattle.gw_term.specs.declared.record.Termination.{Termination}
use Rattle.gw_term.specs.Record.{provisioned}
use Rattle.gw_table.specs.Maps.{Maps, term, put_term}

-- the termination of a name, unless it is there
abbrev pub put_missing : List ℕ → Maps → Option Termination → Maps
put_missing t m None = put_term m t (Some provisioned)
put_missing t m (Some r) = m

-- terminations as they are configured, under some of these names, and no contexts
pub record AreAmong (names : List (List ℕ)) (m : Maps) : Type 0 where
  pub terms : (q : List ℕ) (r : Termination) → term m q ≡ Some r → (r ≡ provisioned) × (is_in q names ≡ true)
  pub contexts : m.contexts ≡ finite.empty
