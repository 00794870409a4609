use Rattle.std.proofs.Common.{◌≡◌, ℕ, ◌+◌, ◌*◌, true, false, drop, sym, ap, ◌∙◌, arith}
use Rattle.std.specs.Str.Parse.{digits_value, digits_value_after}
use Rattle.gw_table.proofs.SlotNames.{not_digits, others_digits, one_more_digit, grown}
use Rattle.gw_table.proofs.reserved.number_in.Goals as goal

pub returns-then-not-is_ascii_digit-clause-none : goal.returns-then-not-is_ascii_digit-clause-none
returns-then-not-is_ascii_digit-clause-none c e all =
    let none = not_digits c.args.text.now c.loop-byte.byte-index c.loop-byte-test.true (sym c.is_ascii_digit.ensures.value ∙ c.if-not-is_ascii_digit.true) c.loop-byte.invariant.digits in
    let clash : true ≡ false = sym all ∙ none in absurd cc

pub returns-then-number-ge-SLOTS-clause-none : goal.returns-then-number-ge-SLOTS-clause-none
returns-then-number-ge-SLOTS-clause-none c e all =
    let next = one_more_digit c.args.text.now c.loop-byte.byte-index c.loop-byte.number (digits_value 10 c.args.text.now) c.loop-byte-test.true (sym c.is_ascii_digit.ensures.value ∙ c.if-not-is_ascii_digit.false) c.loop-byte.invariant.value in
    omega (arith, grown c.args.text.now _ _ _ next, c.if-number-ge-SLOTS.true, c.from.ensures)

pub loop-byte-preserved : goal.loop-byte-preserved
loop-byte-preserved c =
    let is = sym c.is_ascii_digit.ensures.value ∙ c.if-not-is_ascii_digit.false in
    record {
      small = c.if-number-ge-SLOTS.false;
      value =
          ap (λ (n : ℕ). digits_value_after 10 (c.loop-byte.number * 10 + n) (drop (c.loop-byte.byte-index + 1) c.args.text.now)) c.from.ensures
          ∙ one_more_digit c.args.text.now c.loop-byte.byte-index c.loop-byte.number (digits_value 10 c.args.text.now) c.loop-byte-test.true is c.loop-byte.invariant.value;
      digits = sym (others_digits c.args.text.now c.loop-byte.byte-index true c.loop-byte-test.true is) ∙ c.loop-byte.invariant.digits;
    }
