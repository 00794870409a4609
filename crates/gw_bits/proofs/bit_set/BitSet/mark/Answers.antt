use Rattle.std.proofs.Common.{◌≡◌, ℕ, ◌/◌, ◌<◌, ◌≤◌, true, false, List, length, subst, sym, refl, ap, ◌∙◌, arith}
use Rattle.gw_bits.specs.BitSets.{has_bit, room}
use Rattle.gw_bits.specs.declared.bit_set.BitSet.TheInside.{Inside}
use Rattle.gw_bits.proofs.Words.{set_others, set_here, same_room, without_room, small_index, large_index}
use Rattle.gw_bits.proofs.bit_set.BitSet.mark.Goals.{in-Some, in_default}
use Rattle.gw_bits.proofs.bit_set.BitSet.mark.Goals as goal

pub returns-clause-others : goal.returns-clause-others
returns-clause-others c n other =
    elim c.match-get_mut.branch [
      | in-Some w ↦
          ap (λ (x : Inside). has_bit x.words.items n) w.self-inside-is
          ∙ set_others c.self.inside.words.items w.in-Some.word.now c.args.number (omega (arith, c.self.inside.words.ok, w.in-Some.ensures.variant.0 refl)) w.in-Some.ensures.value n other
          ∙ ap (λ (l : List ℕ). has_bit l n) c.self.view_is
      | in_default w ↦ ap (λ (x : Inside). has_bit x.words.items n) w.self-inside-is ∙ ap (λ (l : List ℕ). has_bit l n) c.self.view_is
    ]

pub returns-clause-room : goal.returns-clause-room
returns-clause-room c =
    elim c.match-get_mut.branch [
      | in-Some w ↦ ap (λ (x : Inside). room x.words.items) w.self-inside-is ∙ same_room c.self.inside.words.items _ _ ∙ ap (λ (l : List ℕ). room l) c.self.view_is
      | in_default w ↦ ap (λ (x : Inside). room x.words.items) w.self-inside-is ∙ ap (λ (l : List ℕ). room l) c.self.view_is
    ]

inside : (c : goal.Joined-get_mut) → c.args.number < room c.args.self.now → c.args.number / 64 < length c.self.inside.words.items
inside c small = small_index c.self.inside.words.items c.args.number (subst (λ (l : List ℕ). c.args.number < room l) (sym c.self.view_is) small)

outside : (c : goal.Joined-get_mut) → room c.args.self.now ≤ c.args.number → length c.self.inside.words.items ≤ c.args.number / 64
outside c large = large_index c.self.inside.words.items c.args.number (subst (λ (l : List ℕ). room l ≤ c.args.number) (sym c.self.view_is) large)

pub returns-clause-in_use : goal.returns-clause-in_use
returns-clause-in_use c small =
    elim c.match-get_mut.branch [
      | in-Some w ↦
          ap (λ (x : Inside). has_bit x.words.items c.args.number) w.self-inside-is
          ∙ set_here c.self.inside.words.items w.in-Some.word.now c.args.number (omega (arith, c.self.inside.words.ok, w.in-Some.ensures.variant.0 refl)) w.in-Some.ensures.value
      | in_default w ↦ let none : false ≡ true = w.in_default.ensures.variant.1 (omega (arith, c.self.inside.words.ok, inside c small)) in absurd cc
    ]

pub returns-clause-no_room : goal.returns-clause-no_room
returns-clause-no_room c large =
    elim c.match-get_mut.branch [
      | in-Some w ↦ absurd (omega (arith, c.self.inside.words.ok, outside c large, w.in-Some.ensures.variant.0 refl))
      | in_default w ↦ ap (λ (x : Inside). has_bit x.words.items c.args.number) w.self-inside-is ∙ without_room c.self.inside.words.items c.args.number (outside c large)
    ]
