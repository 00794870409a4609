use Rattle.std.proofs.Common.{List, ◌++◌, sym, ap, ◌∙◌, append-nil}
use Rattle.std.specs.List.{filter}
use Rattle.gw_table.specs.Maps.{is_free, names}
use Rattle.gw_table.specs.Stored.{Stored, maps_of}
use Rattle.gw_table.proofs.FreeNames.{Named, free_here, free_are}
use Rattle.gw_table.proofs.tables.Tables.free_targets.Goals as goal

pub returns : goal.returns
returns c =
    sym (append-nil c.loop-name.targets.items) ∙ ap (λ (l : List Named). c.loop-name.targets.items ++ free_here l) (sym c.in-None.ensures.steps.0) ∙ c.loop-name.invariant
    ∙ ap (λ (l : List Named). free_here l) c.into_iter-name-iterator.ensures.into_iter_gives.0
    ∙ free_are c.self.inside.terms.entries c.self.inside.contexts.entries c.into_iter-name-iterator.ensures.into_iter_gives.1
    ∙ ap (λ (s : Stored). filter (is_free (maps_of s)) (names (maps_of s))) c.self.view_is
