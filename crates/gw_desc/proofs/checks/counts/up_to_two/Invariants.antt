use Rattle.std.proofs.Common.{◌≡◌, ◌≤◌, ◌+◌, drop}
use Rattle.std.specs.List.{count_by}
use Rattle.gw_desc.proofs.checks.counts.up_to_two.Given as goal

-- those that are passed, and those that are left, are all
abbrev pub invariant-loop-item : goal.invariant-loop-item
invariant-loop-item g l =
    (l.count + count_by (g.T.OfKind.is_of l.kind) (drop l.item-index l.items) ≡ count_by (g.T.OfKind.is_of l.kind) l.items)
    × (l.count ≤ 1)
