-- What is made of options, of lists and of four places, and where it is not made.
use Rattle.std.proofs.Common.{◌≡◌, ◌⊎◌, inl, inr, ℕ, List, [], ◌∷◌, ◌++◌, Option, Some, None, refl, ap, ◌∙◌}
use Rattle.std.specs.List.{All, flat_map}
use Rattle.std.specs.Option.{option_map}
use Rattle.std.proofs.lemmas.List.Elements.{All-nil, All-head, All-tail, All-append}
use Rattle.gw_term.specs.Merge.{and_then, each_place}
use Rattle.gw_term.specs.Places.{rising, AtEach, AtSome, Between}
use Rattle.gw_term.specs.declared.places.PerStream.{PerStream}

-- ---- one thing behind another

pub first_then : {S T : Type 0} (first : Option S) (next : S → Option T) (t : T) → and_then first next ≡ Some t → (s : S) × (first ≡ Some s) × (next s ≡ Some t)
first_then None next t h = absurd cc
first_then (Some s) next t h = (s, refl, h)

-- what comes first cannot be made, or what follows it
pub none_then : {S T : Type 0} (first : Option S) (next : S → Option T) → and_then first next ≡ None → (first ≡ None) ⊎ ((s : S) × (first ≡ Some s) × (next s ≡ None))
none_then None next h = inl refl
none_then (Some s) next h = inr (s, refl, h)

pub mapped_from : {S T : Type 0} (first : Option S) (f : S → T) (t : T) → option_map f first ≡ Some t → (s : S) × (first ≡ Some s) × (t ≡ f s)
mapped_from None f t h = absurd cc
mapped_from (Some s) f t h = (s, refl, cc)

pub none_mapped : {S T : Type 0} (first : Option S) (f : S → T) → option_map f first ≡ None → first ≡ None
none_mapped None f h = refl
none_mapped (Some s) f h = absurd cc

pub all_of : {X Y : Type 0} (of : X → List Y) (IsGood : X → Type 0) (IsForm : Y → Type 0) → ((x : X) → IsGood x → All IsForm (of x)) → (xs : List X) → All IsGood xs → All IsForm (flat_map of xs)
all_of of IsGood IsForm each [] good = All-nil IsForm
all_of of IsGood IsForm each (x ∷ xs) good = All-append IsForm (of x) (flat_map of xs) (each x (All-head IsGood x xs good)) (all_of of IsGood IsForm each xs (All-tail IsGood x xs good))

-- ---- four places

module _ {A B : Type 0} (f : ℕ → A → Option B) (p : PerStream A) where
  pub places_made : (q : PerStream B) → each_place f p ≡ Some q → Between (λ number a b. f number a ≡ Some b) p q
  places_made q h =
      let a = first_then (f 1 p.first) _ q h in
      let b = first_then (f 2 p.second) _ q a.2 in
      let c = first_then (f 3 p.third) _ q b.2 in
      let d = first_then (f 4 p.fourth) _ q c.2 in
      let whole = d.2 in
      record { first = a.1 ∙ ap Some cc; second = b.1 ∙ ap Some cc; third = c.1 ∙ ap Some cc; fourth = d.1 ∙ ap Some cc }

  pub place_not_made : each_place f p ≡ None → AtSome (λ number a. f number a ≡ None) p
  place_not_made h =
      elim (none_then (f 1 p.first) _ h) [
        | inl none ↦ inl none
        | inr a ↦ elim (none_then (f 2 p.second) _ a.2) [
          | inl none ↦ inr (inl none)
          | inr b ↦ elim (none_then (f 3 p.third) _ b.2) [
            | inl none ↦ inr (inr (inl none))
            | inr c ↦ elim (none_then (f 4 p.fourth) _ c.2) [ inl none ↦ inr (inr (inr none)) | inr d ↦ absurd (let clash = d.2 in cc) ]
          ]
        ]
      ]

-- what follows in each place
pub between : {A B : Type 0} (P Q : ℕ → A → B → Type 0) → ((number : ℕ) (a : A) (b : B) → P number a b → Q number a b) → (p : PerStream A) (q : PerStream B) → Between P p q → Between Q p q
between P Q follows p q h = record {
  first = follows 1 p.first q.first h.first;
  second = follows 2 p.second q.second h.second;
  third = follows 3 p.third q.third h.third;
  fourth = follows 4 p.fourth q.fourth h.fourth;
}

-- what holds in each place of the one holds in each of the other
pub carried_over : {A B : Type 0} (R : ℕ → A → Type 0) (P : ℕ → A → B → Type 0) (S : ℕ → B → Type 0) → ((number : ℕ) (a : A) (b : B) → R number a → P number a b → S number b)
    → (p : PerStream A) (q : PerStream B) → AtEach R p → Between P p q → AtEach S q
carried_over R P S follows p q r h = record {
  first = follows 1 p.first q.first r.first h.first;
  second = follows 2 p.second q.second r.second h.second;
  third = follows 3 p.third q.third r.third h.third;
  fourth = follows 4 p.fourth q.fourth r.fourth h.fourth;
}

pub at_some : {A : Type 0} (P Q : ℕ → A → Type 0) → ((number : ℕ) (a : A) → P number a → Q number a) → (p : PerStream A) → AtSome P p → AtSome Q p
at_some P Q follows p (inl h) = inl (follows 1 p.first h)
at_some P Q follows p (inr (inl h)) = inr (inl (follows 2 p.second h))
at_some P Q follows p (inr (inr (inl h))) = inr (inr (inl (follows 3 p.third h)))
at_some P Q follows p (inr (inr (inr h))) = inr (inr (inr (follows 4 p.fourth h)))

pub all_rising : {A B : Type 0} (f : ℕ → A → List B) (P : ℕ → A → Type 0) (IsForm : B → Type 0) → ((number : ℕ) (a : A) → P number a → All IsForm (f number a)) → (p : PerStream A) → AtEach P p → All IsForm (rising f p)
all_rising f P IsForm each p h =
    All-append IsForm ((f 1 p.first ++ f 2 p.second) ++ f 3 p.third) (f 4 p.fourth)
    (All-append IsForm (f 1 p.first ++ f 2 p.second) (f 3 p.third)
    (All-append IsForm (f 1 p.first) (f 2 p.second) (each 1 p.first h.first) (each 2 p.second h.second)) (each 3 p.third h.third))
    (each 4 p.fourth h.fourth)
