use Rattle.std.proofs.Common.{◌≢◌, ◌+◌, ◌<◌, ℕ, get_or}
use Rattle.gw_desc.specs.Checks.{names_of}
use Rattle.gw_desc.proofs.NamePlaces.{key}
use Rattle.gw_desc.proofs.checks.names.is_twice_by_sorting.Given as goal

-- no two neighbours that are passed
abbrev pub invariant-loop-k : goal.invariant-loop-k
invariant-loop-k l = (k : ℕ) → k + 1 < l.k → key (names_of l.properties) (get_or l.places k 0) ≢ key (names_of l.properties) (get_or l.places (k + 1) 0)
