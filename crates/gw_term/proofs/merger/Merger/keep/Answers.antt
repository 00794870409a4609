use Rattle.std.proofs.Common.{◌≡◌, ◌==◌, true, [], length, None, Some, ap, sym, ◌∙◌, rules}
use Rattle.std.specs.Option.{is_some}
use Rattle.gw_term.specs.Gathered.{outcome_by}
use Rattle.gw_term.specs.Settings.{Settings}
use Rattle.gw_term.specs.declared.streams.Outcome.{Outcome}
use Rattle.gw_term.proofs.MadeOnce.{for_each_slot, made_of}
use Rattle.gw_term.proofs.merger.Merger.keep.Goals as goal

pub invariant_of-self-then-is_some-clause-same : goal.invariant_of-self-then-is_some-clause-same
invariant_of-self-then-is_some-clause-same c =
    let self = c.args.self.now in
    let old = c.args.old.now in
    let new = c.args.new.now in
    let there : is_some old.slot ≡ true = search rules in
    let empty : (length new.filled == 0) ≡ true = search rules in
    λ _. for_each_slot self.rules.now self.descriptors.now old.slot old.settings new.record.settings new.filled empty there c.requires

pub invariant_of-self-then-is_some-clause-made : goal.invariant_of-self-then-is_some-clause-made
invariant_of-self-then-is_some-clause-made c = λ before e.
    let self = c.args.self.now in
    let old = c.args.old.now in
    let new = c.args.new.now in
    let empty : (length new.filled == 0) ≡ true = search rules in
    let same : c.in_ok-copied.field-0 ≡ before = cc in
    (λ i. outcome_by self.rules.now self.descriptors.now None ((sym same ∙ c.in_ok-copied.ensures) i))
    ∙ made_of self.rules.now self.descriptors.now old.slot old.settings new.record.settings new.filled empty c.requires
    ∙ ap (λ (s : Settings). Some (let o : Outcome = record { settings = s; filled = [] } in o)) (sym c.in_ok-after.ensures)
