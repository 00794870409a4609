use Rattle.std.proofs.Common.{◌≡◌, ◌∙◌, sym, refl, true, false, rules}
use Rattle.gw_text.specs.Tokens.{is_same_word}
use Rattle.gw_desc.proofs.Counting.{any_next}
use Rattle.gw_desc.proofs.checks.names.has_name.Goals as goal

pub returns-then-eq_ignore_ascii_case : goal.returns-then-eq_ignore_ascii_case
returns-then-eq_ignore_ascii_case c =
    let found : is_same_word c.args.name.now c.property-item.result.name ≡ true = search rules in
    sym (c.loop-property.invariant ∙ any_next (is_same_word c.args.name.now) c.args.properties.now c.loop-property.property-index c.property-item.result c.loop-property-test.true c.property-item.is ∙ rw found refl)

pub loop-property-preserved : goal.loop-property-preserved
loop-property-preserved c =
    let other : is_same_word c.args.name.now c.property-item.result.name ≡ false = search rules in
    c.loop-property.invariant ∙ any_next (is_same_word c.args.name.now) c.args.properties.now c.loop-property.property-index c.property-item.result c.loop-property-test.true c.property-item.is ∙ rw other refl
