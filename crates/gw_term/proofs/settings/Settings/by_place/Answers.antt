use Rattle.std.proofs.Common.{◌∙◌, ap, sym}
use Rattle.gw_term.specs.Settings.{Settings, with_setting}
use Rattle.gw_term.specs.declared.settings.Setting.{Setting}
use Rattle.gw_term.proofs.SettingLists.{set_at, set_more, number_read, kind_read}
use Rattle.gw_term.proofs.settings.Settings.by_place.Goals.{in-Properties, in-Stream, in-Tail}
use Rattle.gw_term.proofs.settings.Settings.by_place.Goals as goal

pub loop-setting-preserved : goal.loop-setting-preserved
loop-setting-preserved c =
    let before : Settings = set_at c.loop-setting.found in
    let x = c.setting-item.result in
    let more = ap (with_setting x) c.loop-setting.invariant ∙ sym (set_more c.list-setting-items.result.now c.loop-setting.setting-index x c.loop-setting-test.true c.setting-item.is) in
    elim c.match-setting.branch [
      | in-Properties w ↦
          ap set_at w.found-is ∙ (λ i. record before { properties = w.as_slice-found.ensures i }) ∙ ap (λ (y : Setting). with_setting y before) (sym w.in-Properties.is) ∙ more
      | in-Stream w ↦
          ap set_at w.found-is ∙ (λ i. record before { streams = number_read w.in-Stream.number _ c.loop-setting.found.streams w.put.new.self w.put.ensures i })
          ∙ ap (λ (y : Setting). with_setting y before) (sym w.in-Stream.is) ∙ more
      | in-Tail w ↦
          ap set_at w.found-is ∙ (λ i. record before { tails = kind_read w.in-Tail.kind _ c.loop-setting.found.tails w.put-in-Tail.new.self w.put-in-Tail.ensures i })
          ∙ ap (λ (y : Setting). with_setting y before) (sym w.in-Tail.is) ∙ more
    ]
