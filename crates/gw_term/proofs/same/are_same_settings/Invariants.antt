use Rattle.std.proofs.Common.{◌≡◌, ◌++◌, take}
use Rattle.gw_term.proofs.same.are_same_settings.Given as goal

-- those so far are the others so far
abbrev pub invariant-loop-setting : goal.invariant-loop-setting
invariant-loop-setting l = take l.setting-index l.settings ++ l.left ≡ l.others
