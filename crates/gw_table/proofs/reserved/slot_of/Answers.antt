use Rattle.std.proofs.Common.{◌≡◌, ℕ, ◌-◌, ◌<◌, true, false, List, length, get_or, take, drop, eqb-true, eq-eqb, sym, subst, ◌∙◌, arith, length-drop}
use Rattle.std.specs.Prelude.{IfSome}
use Rattle.std.proofs.lemmas.List.{take_all}
use Rattle.gw_table.specs.Reserved.{slot_name}
use Rattle.gw_table.proofs.SlotNames.{starts_otherwise, no_digits, leading_zero, found_slot, without_slot}
use Rattle.gw_table.proofs.reserved.slot_of.Goals.{then-is_empty-via-then-is_empty, then-is_empty-via-else-is_empty+then-has_leading_zero}
use Rattle.gw_table.proofs.reserved.slot_of.Goals as goal

abbrev behind : List ℕ → List ℕ
behind bytes = take (length bytes - 4) (drop 4 bytes)

all_behind : (bytes : List ℕ) → behind bytes ≡ drop 4 bytes
all_behind bytes = take_all (length bytes - 4) (drop 4 bytes) (omega (arith, length-drop 4 bytes))

pub returns-then-not-begins_as_slot-clause-none : goal.returns-then-not-begins_as_slot-clause-none
returns-then-not-begins_as_slot-clause-none c e s small same =
    starts_otherwise c.as_bytes-bytes.result.now s (sym c.begins_as_slot.ensures ∙ c.if-not-begins_as_slot.true) (same ∙ sym c.as_bytes-bytes.ensures.bytes)

pub returns-then-is_empty-clause-none : goal.returns-then-is_empty-clause-none
returns-then-is_empty-clause-none c e s small same =
    let bytes : List ℕ = c.as_bytes-bytes.result.now in
    let name : slot_name s ≡ bytes = same ∙ sym c.as_bytes-bytes.ensures.bytes in
    elim c.then-is_empty.branch [
      | then-is_empty-via-then-is_empty w ↦ no_digits bytes (behind bytes) s (all_behind bytes) small (eqb-true _ _ (sym c.is_empty.ensures ∙ w.if-is_empty.true)) name
      | then-is_empty-via-else-is_empty+then-has_leading_zero w ↦
          let zero = w.has_leading_zero.ensures.0 w.if-has_leading_zero.true in
          leading_zero bytes (behind bytes) s (all_behind bytes) small zero.1 zero.0 name
    ]

some : (c : goal.After-number_in) → 0 < length (behind c.as_bytes-bytes.result.now)
some c = positive (length (behind c.as_bytes-bytes.result.now)) (λ e. let clash : true ≡ false = sym (c.is_empty.ensures ∙ eq-eqb _ _ e) ∙ c.if-is_empty.false in cc)
  where
    positive : (n : ℕ) → (n ≡ 0 → ⊥) → 0 < n
    positive n h = omega arith

one : (c : goal.After-number_in) → get_or (behind c.as_bytes-bytes.result.now) 0 0 ≡ 48 → length (behind c.as_bytes-bytes.result.now) ≡ 1
one c first = at_most (length (behind c.as_bytes-bytes.result.now)) (some c) (λ h. let clash : true ≡ false = sym (c.has_leading_zero.ensures.1 (h, first)) ∙ c.if-has_leading_zero.false in cc)
  where
    at_most : (n : ℕ) → 0 < n → (1 < n → ⊥) → n ≡ 1
    at_most n h k = omega arith

pub returns-clause-slot : goal.returns-clause-slot
returns-clause-slot c =
    subst (λ (n : List ℕ). IfSome c.number_in.result (λ s. slot_name s ≡ n)) c.as_bytes-bytes.ensures.bytes
    (found_slot c.as_bytes-bytes.result.now (behind c.as_bytes-bytes.result.now) c.number_in.result (sym c.begins_as_slot.ensures ∙ c.if-not-begins_as_slot.false) (all_behind c.as_bytes-bytes.result.now) (some c) (one c)
    c.number_in.ensures.number c.number_in.ensures.digits c.number_in.ensures.small)

pub returns-clause-none : goal.returns-clause-none
returns-clause-none c none s small same =
    without_slot c.as_bytes-bytes.result.now (behind c.as_bytes-bytes.result.now) c.number_in.result (all_behind c.as_bytes-bytes.result.now) c.number_in.ensures.none none s small (same ∙ sym c.as_bytes-bytes.ensures.bytes)
