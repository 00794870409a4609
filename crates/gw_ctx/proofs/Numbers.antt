-- Places of names, once one of them is gone and the last one has taken its place.
use Rattle.std.proofs.Common.{◌≡◌, ℕ, ◌+◌, ◌-◌, ◌<◌, false, ◌⊎◌, inl, inr, List, length, get_or, bytes_eq, arith, ap, sym, ◌∙◌}
use Rattle.std.specs.Prelude.{AllPairs}
use Rattle.std.proofs.lemmas.Bool.{cases_eq}
use Rattle.gw_base.proofs.NamesInLists.{other_way}
use Rattle.gw_ctx.specs.Places.{moved}

-- a list without the element at a place, which the last one has taken
pub record IsSwapped {X : Type 0} (old new : List X) (g : ℕ) : Type 0 where
  pub fewer : length new + 1 ≡ length old
  pub taken : (d : X) → g + 1 < length old → get_or new g d ≡ get_or old (length old - 1) d
  pub others : (k : ℕ) (d : X) → (k ≡ g → ⊥) → k + 1 < length old → get_or new k d ≡ get_or old k d

moved_cases : (last g x : ℕ) → ((x ≡ last) × (moved last g x ≡ g)) ⊎ ((x ≡ last → ⊥) × (moved last g x ≡ x))
moved_cases last g x = grind arith

module _ {X : Type 0} (old new : List X) (g : ℕ) (s : IsSwapped old new g) (inside : g < length old) where
  pub moved_within : (x : ℕ) → x < length old → (x ≡ g → ⊥) → moved (length new) g x < length new
  moved_within x l n = elim (moved_cases (length new) g x) [
    | inl a ↦ elim (cases_eq g (length new)) [ inl e ↦ absurd (n (a.0 ∙ sym e)) | inr d ↦ omega (arith, s.fewer, a.1, d, inside) ]
    | inr a ↦ omega (arith, s.fewer, a.0, a.1, l)
  ]

  -- what stood at a place stands where it moves to
  pub moved_there : (x : ℕ) (d : X) → x < length old → (x ≡ g → ⊥) → get_or new (moved (length new) g x) d ≡ get_or old x d
  moved_there x d l n = elim (moved_cases (length new) g x) [
    | inl a ↦ elim (cases_eq g (length new)) [
      | inl e ↦ absurd (n (a.0 ∙ sym e))
      | inr m ↦ ap (λ (k : ℕ). get_or new k d) a.1 ∙ s.taken d (omega (arith, s.fewer, m, inside)) ∙ ap (λ (k : ℕ). get_or old k d) (omega (arith, s.fewer, a.0))
    ]
    | inr a ↦ ap (λ (k : ℕ). get_or new k d) a.1 ∙ s.others x d n (omega (arith, s.fewer, a.0, l))
  ]

-- names that stood apart do so still
pub apart_swapped : (old new : List (List ℕ)) (g : ℕ) → IsSwapped old new g → AllPairs (λ s t. bytes_eq s t ≡ false) old → AllPairs (λ s t. bytes_eq s t ≡ false) new
apart_swapped old new g s h i j d l m = grind (arith, other_way)
