use Rattle.std.proofs.Common.{◌≡◌, ◌||◌, drop, length}
use Rattle.std.specs.List.{list_any}
use Rattle.gw_desc.specs.Twice.{has_number_twice}
use Rattle.gw_desc.specs.Checks.{numbers_in}
use Rattle.gw_desc.specs.NumberSet.{is_in_set}
use Rattle.gw_desc.proofs.checks.twice.is_number_twice_by_bits.Given as goal

-- two of all are equal if one that is left has its mark, or two that are left are equal
abbrev pub invariant-loop-part : goal.invariant-loop-part
invariant-loop-part l =
    (length l.seen ≡ 1024)
    × (has_number_twice (numbers_in l.parts) ≡ (list_any (is_in_set l.seen) (numbers_in (drop l.part-index l.parts)) || has_number_twice (numbers_in (drop l.part-index l.parts))))
