use Rattle.std.proofs.Common.{◌≡◌, true, false, sym, ap, ◌∙◌, arith}
use Rattle.gw_bits.specs.BitSets.{has_bit}
use Rattle.gw_table.specs.Reserved.{slot_name}
use Rattle.gw_table.proofs.SlotNames.{slots_apart}
use Rattle.gw_table.proofs.in_use.set_slot.Goals as goal

pub returns-else-stands : goal.returns-else-stands
returns-else-stands c = record {
  others = λ s small other. c.unmark.ensures.others s (λ e. other (ap (λ n. slot_name n) (e ∙ c.from-else-stands.ensures) ∙ c.in-Some.ensures.slot));
  own = λ s small same in_use.
      let e = slots_apart s c.in-Some.slot (omega arith) (omega (arith, c.in-Some.ensures.small)) (same ∙ sym c.in-Some.ensures.slot) in
      let clash : true ≡ false = sym in_use ∙ ap (λ n. has_bit c.unmark.new.self n) (e ∙ sym c.from-else-stands.ensures) ∙ c.unmark.ensures.unmarked in absurd cc;
}
