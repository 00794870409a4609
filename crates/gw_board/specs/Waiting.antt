-- The keys of places that wait, as they are kept (own).
use Rattle.std.specs.Prelude.{nat_eq, Bool, ◌&&◌, ◌||◌, bytes_eq, List}
use Rattle.std.specs.List.{list_any}
use Rattle.indexmap.specs.IndexSet.{contains}
use Rattle.gw_base.specs.declared.key.Key.{Key}
use Rattle.gw_base.specs.declared.key.Key.TheVariants.{Term, Ctx, Whole}
use Rattle.gw_base.specs.Keys.{has}
use Rattle.gw_board.specs.declared.waiting.Waiting.{Waiting}

-- the key is one of theirs
abbrev pub is_waiting : Waiting → Key → Bool
is_waiting w (Term t) = contains bytes_eq w.terms t
is_waiting w (Ctx n) = contains nat_eq w.contexts n.0
is_waiting w Whole = w.is_whole

-- keys meet those of one of the places
abbrev pub meet_waiting : Waiting → List Key → Bool
meet_waiting w keys = w.is_whole || (w.is_any && has keys Whole) || list_any (is_waiting w) keys
