use Rattle.std.proofs.Common.{◌≡◌, ℕ, ◌/◌, true, false, List, length, ⊎_elim, refl, ap, ◌∙◌, arith}
use Rattle.std.proofs.lemmas.Bool.{cases_lt}
use Rattle.gw_bits.specs.BitSets.{has_bit, room}
use Rattle.gw_bits.specs.declared.bit_set.BitSet.TheInside.{Inside}
use Rattle.gw_bits.proofs.Words.{cleared_others, cleared_here, same_room, without_room}
use Rattle.gw_bits.proofs.bit_set.BitSet.unmark.Goals.{in-Some, in_default}
use Rattle.gw_bits.proofs.bit_set.BitSet.unmark.Goals as goal

pub returns-clause-others : goal.returns-clause-others
returns-clause-others c n other =
    elim c.match-get_mut.branch [
      | in-Some w ↦
          ap (λ (x : Inside). has_bit x.words.items n) w.self-inside-is
          ∙ cleared_others c.self.inside.words.items w.in-Some.word.now c.args.number (omega (arith, c.self.inside.words.ok, w.in-Some.ensures.variant.0 refl)) w.in-Some.ensures.value n other
          ∙ ap (λ (l : List ℕ). has_bit l n) c.self.view_is
      | in_default w ↦ ap (λ (x : Inside). has_bit x.words.items n) w.self-inside-is ∙ ap (λ (l : List ℕ). has_bit l n) c.self.view_is
    ]

pub returns-clause-room : goal.returns-clause-room
returns-clause-room c =
    elim c.match-get_mut.branch [
      | in-Some w ↦ ap (λ (x : Inside). room x.words.items) w.self-inside-is ∙ same_room c.self.inside.words.items _ _ ∙ ap (λ (l : List ℕ). room l) c.self.view_is
      | in_default w ↦ ap (λ (x : Inside). room x.words.items) w.self-inside-is ∙ ap (λ (l : List ℕ). room l) c.self.view_is
    ]

pub returns-clause-unmarked : goal.returns-clause-unmarked
returns-clause-unmarked c =
    elim c.match-get_mut.branch [
      | in-Some w ↦
          ap (λ (x : Inside). has_bit x.words.items c.args.number) w.self-inside-is
          ∙ cleared_here c.self.inside.words.items w.in-Some.word.now c.args.number (omega (arith, c.self.inside.words.ok, w.in-Some.ensures.variant.0 refl)) w.in-Some.ensures.value
      | in_default w ↦
          ap (λ (x : Inside). has_bit x.words.items c.args.number) w.self-inside-is
          ∙ without_room c.self.inside.words.items c.args.number (⊎_elim (λ h. let none : false ≡ true = w.in_default.ensures.variant.1 (omega (arith, c.self.inside.words.ok, h)) in absurd cc) (λ h. h) (cases_lt (c.args.number / 64) (length c.self.inside.words.items)))
    ]
