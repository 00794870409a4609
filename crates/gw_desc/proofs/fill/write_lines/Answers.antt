-- Line by line: one that stays as it is, and one in which a `$` is filled.
use Rattle.std.proofs.Common.{◌≡◌, ◌<◌, ◌+◌, ◌-◌, ◌++◌, List, ℕ, true, false, drop, take, get_or, length, ap, subst, ◌∙◌, arith}
use Rattle.std.specs.List.{list_any}
use Rattle.std.proofs.lemmas.List.{length-take, length-drop}
use Rattle.gw_base.specs.Bytes.{is_one_of}
use Rattle.gw_desc.specs.Fill.{line_ends, filled_line, filled_text, is_fillable, is_fillable_line, IsFilledAt}
use Rattle.gw_desc.proofs.FillRuns.{line_stays, stays_told, line_filled, told_past, told_here}
use Rattle.gw_desc.proofs.fill.write_lines.Goals as goal

pub loop-len-preserved-in-Some-choice_of : goal.loop-len-preserved-in-Some-choice_of
loop-len-preserved-in-Some-choice_of c =
    let address = c.args.address.now in
    let port = c.args.port.now in
    let rest : List ℕ = c.loop-len.rest.now in
    let same = c.loop-len.same in
    let len = c.in-Some.len in
    let d : List ℕ = drop same rest in
    let within : len < length d = subst (λ (l : List ℕ). len < length l) c.text_from.ensures c.in-Some.ensures.within in
    let first : list_any (is_one_of line_ends) (take len d) ≡ false = subst (λ (l : List ℕ). list_any (is_one_of line_ends) (take len l) ≡ false) c.text_from.ensures c.in-Some.ensures.first in
    let end : is_one_of line_ends (get_or d len 0) ≡ true = subst (λ (l : List ℕ). is_one_of line_ends (get_or l len 0) ≡ true) c.text_from.ensures c.in-Some.ensures.end in
    let next = stays_told address port rest same len within first end in
    let at = c.in-Some-choice_of.at in
    let filled : IsFilledAt at c.in-Some-choice_of.new.now (take len d) (filled_line address port (take len d)) = subst (λ (l : List ℕ). IsFilledAt at c.in-Some-choice_of.new.now l (filled_line address port l)) c.line_at.ensures c.in-Some-choice_of.ensures.filled in
    let below : at < len = omega (arith, filled.0, length-take len d) in
    let left = c.behind-rest.ensures in (
      omega (arith, ap (λ (l : List ℕ). length l) left, length-drop (same + at + 1) rest, length-drop same rest, within, below, c.loop-len.invariant.0),
      omega (arith, ap (λ (l : List ℕ). length l) left, length-drop (same + at + 1) rest, c.loop-len.invariant.1),
      ap (λ (l : List ℕ). l ++ (take (len - at) c.behind-rest.result.now ++ filled_text address port (drop (len - at) c.behind-rest.result.now))) c.in_ok-write_to-in-Some-choice_of.ensures
          ∙ ap (λ (l : List ℕ). (c.loop-len.out.items ++ (take (same + at) rest ++ c.in-Some-choice_of.new.now)) ++ (take (len - at) l ++ filled_text address port (drop (len - at) l))) left
          ∙ line_filled address port c.in-Some-choice_of.new.now c.loop-len.out.items rest same len at within below first end filled.1
          ∙ c.loop-len.invariant.2,
      told_here c.loop-len.fillable (is_fillable_line (take len d)) (is_fillable (drop (same + (len + 1)) rest)) (is_fillable c.args.text.now) (is_fillable d) c.loop-len.invariant.3 next (c.in-Some-choice_of.ensures.fillable ∙ ap is_fillable_line c.line_at.ensures),
    )

pub loop-len-preserved : goal.loop-len-preserved
loop-len-preserved c = grind (arith, stays_told, length-drop, line_stays, told_past)
