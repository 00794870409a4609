-- Items in order: one step further, what each step keeps, and the accesses of all.
use Rattle.std.proofs.Math.Seq.{drop-cons}
use Rattle.std.proofs.Common.{◌≡◌, ℕ, ◌+◌, ◌<◌, length, get_or, drop, add-one, Bool, true, false, List, [], ◌∷◌, ◌++◌, refl, sym, ap, ◌∙◌, append_assoc, append-nil}
use Rattle.std.specs.Prelude.{if◌then◌else◌}
use Rattle.gw_table.specs.Maps.{Maps, Outcome}
use Rattle.gw_table.specs.declared.attempts.Attempts.{Attempts}
use Rattle.gw_table.specs.Folds.{none_from, attempts_behind, in_order}

-- what is behind two lists is behind both
behind_both : {S A : Type 0} (a b : List A) (o : Outcome (Attempts S A)) → attempts_behind a (attempts_behind b o) ≡ attempts_behind (a ++ b) o
behind_both {S} {A} a b o = ap (λ (l : List A). let w : Outcome (Attempts S A) = record { maps = o.maps; answer = record { next = o.answer.next; answers = l; stopped = o.answer.stopped } } in w) (sym (append_assoc a b o.answer.answers))

-- what came of the items so far
abbrev pub ended : {S A : Type 0} → Maps → S → List A → Bool → Outcome (Attempts S A)
ended m s answers stopped = record { maps = m; answer = record { next = s; answers = answers; stopped = stopped } }

-- the rest of a list, from its first on
pub rest_of : {X : Type 0} (xs : List X) (i : ℕ) (d x : X) → i < length xs → x ≡ get_or xs i d → drop i xs ≡ x ∷ drop (i + 1) xs
rest_of xs i d x h e = drop-cons xs i d h ∙ ap (λ (k : ℕ). get_or xs i d ∷ drop k xs) (sym (add-one i)) ∙ ap (λ y. y ∷ drop (i + 1) xs) (sym e)

module _ {X S A : Type 0} (step : S → X → Maps → Outcome (Attempts S A)) where
  pub in_order-none : (s : S) (m : Maps) → in_order step s [] m ≡ none_from s false m
  unfolding in_order
  in_order-none s m = refl

  -- what follows one item, by whether it stopped
  abbrev later : List X → Outcome (Attempts S A) → Bool → Outcome (Attempts S A)
  later xs now stopped = if stopped then none_from now.answer.next true now.maps else in_order step now.answer.next xs now.maps

  pub in_order-more : (s : S) (x : X) (xs : List X) (m : Maps) → in_order step s (x ∷ xs) m ≡ attempts_behind (step s x m).answer.answers (later xs (step s x m) (step s x m).answer.stopped)
  unfolding in_order
  in_order-more s x xs m = refl

  one_more : (s : S) (x : X) (left rest : List X) (m : Maps) (front : List A) (b : Bool) → left ≡ x ∷ rest → (step s x m).answer.stopped ≡ b → attempts_behind front (in_order step s left m) ≡ attempts_behind (front ++ (step s x m).answer.answers) (later rest (step s x m) b)
  one_more s x left rest m front b split e =
      ap (λ (l : List X). attempts_behind front (in_order step s l m)) split
      ∙ ap (λ o. attempts_behind front o) (in_order-more s x rest m)
      ∙ behind_both front (step s x m).answer.answers (later rest (step s x m) (step s x m).answer.stopped)
      ∙ ap (λ (c : Bool). attempts_behind (front ++ (step s x m).answer.answers) (later rest (step s x m) c)) e

  -- an item that does not stop, and then the rest
  pub goes_on : (s : S) (x : X) (left rest : List X) (m : Maps) (front : List A) (now all : Outcome (Attempts S A)) → left ≡ x ∷ rest → now ≡ step s x m → now.answer.stopped ≡ false → attempts_behind front (in_order step s left m) ≡ all
      → attempts_behind (front ++ now.answer.answers) (in_order step now.answer.next rest now.maps) ≡ all
  goes_on s x left rest m front now all split did goes told =
      ap (λ (o : Outcome (Attempts S A)). attempts_behind (front ++ o.answer.answers) (in_order step o.answer.next rest o.maps)) did
      ∙ sym (one_more s x left rest m front false split (ap (λ (o : Outcome (Attempts S A)). o.answer.stopped) (sym did) ∙ goes)) ∙ told

  -- one that stops is the last
  pub stops : (s : S) (x : X) (left rest : List X) (m : Maps) (front : List A) (now all : Outcome (Attempts S A)) → left ≡ x ∷ rest → now ≡ step s x m → now.answer.stopped ≡ true → attempts_behind front (in_order step s left m) ≡ all
      → ended now.maps now.answer.next (front ++ now.answer.answers) true ≡ all
  stops s x left rest m front now all split did goes told =
      ap (λ (l : List A). ended now.maps now.answer.next l true) (sym (append-nil (front ++ now.answer.answers)))
      ∙ ap (λ (o : Outcome (Attempts S A)). attempts_behind (front ++ o.answer.answers) (none_from o.answer.next true o.maps)) did
      ∙ sym (one_more s x left rest m front true split (ap (λ (o : Outcome (Attempts S A)). o.answer.stopped) (sym did) ∙ goes)) ∙ told

  -- no item is left
  pub ends : (s : S) (left : List X) (m : Maps) (front : List A) (all : Outcome (Attempts S A)) → left ≡ [] → attempts_behind front (in_order step s left m) ≡ all → ended m s front false ≡ all
  ends s left m front all none told =
      ap (λ (l : List A). ended m s l false) (sym (append-nil front))
      ∙ ap (λ o. attempts_behind front o) (sym (in_order-none s m)) ∙ ap (λ (l : List X). attempts_behind front (in_order step s l m)) (sym none) ∙ told

  -- what each step keeps, all keep
  pub kept : (P : Maps → Type 0) → ((s : S) (x : X) (m : Maps) → P m → P (step s x m).maps) → (s : S) (xs : List X) (m : Maps) → P m → P (in_order step s xs m).maps
  unfolding in_order
  kept P k s [] m p = p
  kept P k s (x ∷ xs) m p = by (step s x m).answer.stopped (k s x m p) (kept P k (step s x m).answer.next xs (step s x m).maps (k s x m p))
    where
      by : (b : Bool) → P (step s x m).maps → P (in_order step (step s x m).answer.next xs (step s x m).maps).maps → P (if b then none_from (step s x m).answer.next true (step s x m).maps else in_order step (step s x m).answer.next xs (step s x m).maps).maps
      by true p q = p
      by false p q = q
