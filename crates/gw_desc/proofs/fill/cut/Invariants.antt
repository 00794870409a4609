use Rattle.std.proofs.Common.{◌≡◌, false, take}
use Rattle.std.specs.List.{list_any}
use Rattle.gw_base.specs.Bytes.{is_one_of}
use Rattle.gw_desc.proofs.fill.cut.Given as goal

-- none of these bytes is among those passed
abbrev pub invariant-loop-i : goal.invariant-loop-i
invariant-loop-i l = list_any (is_one_of l.ends) (take l.i l.text) ≡ false
