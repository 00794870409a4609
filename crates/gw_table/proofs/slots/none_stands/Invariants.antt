use Rattle.std.proofs.Common.{◌≡◌, ℕ, None}
use Rattle.std.specs.BTreeMap.{is_at}
use Rattle.std.specs.Map.{lookup}
use Rattle.std.specs.Ordering.{nat_cmp}
use Rattle.gw_table.specs.Stored.{visible}
use Rattle.gw_table.proofs.slots.none_stands.Given as goal

-- where none of those that are left stands, none does
abbrev pub invariant-loop-row : goal.invariant-loop-row
invariant-loop-row l = (n : ℕ) → visible (lookup (is_at (nat_cmp n)) l.row-iterator) ≡ None → visible (lookup (is_at (nat_cmp n)) l.initial.row-iterator) ≡ None
