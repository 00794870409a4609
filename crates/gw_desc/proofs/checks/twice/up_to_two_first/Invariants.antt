use Rattle.std.proofs.Common.{◌≡◌, ◌≤◌, ◌+◌, drop}
use Rattle.std.specs.List.{count_by}
use Rattle.gw_desc.specs.Checks.{first_stream}
use Rattle.gw_desc.specs.OfKind.{is_part_of}
use Rattle.gw_desc.proofs.checks.twice.up_to_two_first.Given as goal

-- those that are passed, and those that are left, are all
abbrev pub invariant-loop-part : goal.invariant-loop-part
invariant-loop-part l =
    (l.count + count_by (is_part_of l.kind) (first_stream (drop l.part-index l.parts)) ≡ count_by (is_part_of l.kind) (first_stream l.parts))
    × (l.count ≤ 1)
