use Rattle.std.proofs.Common.{◌≡◌, take}
use Rattle.gw_term.specs.Settings.{set_by}
use Rattle.gw_term.proofs.SettingLists.{set_at}
use Rattle.gw_term.proofs.settings.Settings.by_place.Given as goal

-- what those so far set
abbrev pub invariant-loop-setting : goal.invariant-loop-setting
invariant-loop-setting l = set_at l.found ≡ set_by (take l.setting-index l.setting-items)
