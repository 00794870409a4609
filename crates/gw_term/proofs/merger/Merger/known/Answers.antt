use Rattle.std.proofs.Common.{◌≡◌, false, not, Some, ap, subst, sym, rules, ◌∙◌}
use Rattle.std.specs.Prelude.{◌&&◌}
use Rattle.std.specs.Option.{is_some}
use Rattle.gw_base.specs.declared.command_words.Service.{Service}
use Rattle.gw_term.specs.Gathered.{IsMadeOf}
use Rattle.gw_term.specs.Settings.{Settings}
use Rattle.gw_term.specs.declared.record.Termination.{Termination}
use Rattle.gw_term.proofs.MadeOnce.{made_again, made_for}
use Rattle.gw_term.proofs.merger.Merger.known.Goals as goal

pub returns : goal.returns
returns c =
    let self = c.args.self.now in
    let of = self.rules.now in
    let ds = self.descriptors.now in
    let r = c.args.old.now in
    let sent = c.in-Some-Some.sent in
    let before = c.in-Some-Some.before in
    let after = c.in_ok-copied.field-0 in
    let same : r.settings ≡ before = search rules in
    let bare : (is_some r.slot && not self.fills_none) ≡ false = search rules in
    let made : IsMadeOf of ds before after = subst (IsMadeOf of ds before) (sym c.in_ok-copied.ensures) (self.made before c.in-Some-Some.is-1) in
    let again = made_again of ds sent r after (self.sends sent c.in-Some-Some.is-0)
    (made_for of ds self.fills_none r.slot r.settings after self.same bare (subst (λ (s : Settings). IsMadeOf of ds s after) (sym same) made)) in (
      again.0 ∙ ap (λ (s : Service). Some (let x : Termination = record { place = r.place; service = s; slot = r.slot; settings = after } in x)) (sym c.unwrap_or.ensures),
      c.new-filled.ensures ∙ again.1,
    )
