use Rattle.std.proofs.Common.{◌≡◌, nat_eq}
use Rattle.std.specs.List.{list_any, starts_with}
use Rattle.gw_table.proofs.FreeNames.{free_here}
use Rattle.gw_table.proofs.tables.Tables.has_free_under.Given as goal

-- whether there is one is told by those that are left
abbrev pub invariant-loop-name : goal.invariant-loop-name
invariant-loop-name l = list_any (λ t. starts_with nat_eq t l.prefix) (free_here l.name-iterator) ≡ list_any (λ t. starts_with nat_eq t l.prefix) (free_here l.initial.name-iterator)
