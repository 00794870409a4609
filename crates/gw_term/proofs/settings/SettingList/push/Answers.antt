use Rattle.std.proofs.Common.{ap, ◌∙◌}
use Rattle.gw_term.specs.Settings.{with_setting, set_by}
use Rattle.gw_term.proofs.SettingLists.{set_last}
use Rattle.gw_term.proofs.settings.SettingList.push.Goals as goal

pub returns : goal.returns
returns c = ap set_by c.in_ok-push.ensures.ok ∙ set_last c.self.inside.list c.args.setting ∙ ap (with_setting c.args.setting) c.self.view_is
