use Rattle.std.proofs.Common.{◌≡◌, ◌≤◌, ◌++◌, ◌||◌, ◌-◌, length, take, drop}
use Rattle.gw_desc.specs.Fill.{filled_text, is_fillable}
use Rattle.gw_desc.proofs.fill.write_lines.Given as goal

-- what was written, what stays as it is, and what is left behind that, filled, are the whole, filled
abbrev pub invariant-loop-len : goal.invariant-loop-len
invariant-loop-len l =
    (l.same ≤ length l.rest)
    × (length l.rest ≤ length l.text)
    × (l.out.items ++ (take l.same l.rest ++ filled_text l.address l.port (drop l.same l.rest)) ≡ l.fn.out.items ++ filled_text l.address l.port l.text)
    × ((l.fillable || is_fillable (drop l.same l.rest)) ≡ is_fillable l.text)

abbrev pub decreases-loop-len : goal.decreases-loop-len
decreases-loop-len l = length l.rest - l.same
