-- Items in order as accesses: the accesses of one, and then, unless it stops, those of the next.
use Rattle.std.proofs.Common.{◌≡◌, Bool, true, false, cond, List, [], ◌∷◌, ◌++◌, refl, sym, ap, subst, ◌∙◌}
use Rattle.std.specs.Prelude.{if◌then◌else◌}
use Rattle.gw_base.specs.declared.key.Key.{Key}
use Rattle.gw_table.specs.declared.attempts.Attempts.{Attempts}
use Rattle.gw_table.specs.Accesses.{Accesses, Done, effect, and_then, Within}
use Rattle.gw_table.specs.Folds.{none_from, attempts_behind, in_order}
use Rattle.gw_table.specs.Maps.{Maps, Outcome}
use Rattle.gw_table.proofs.Folding.{in_order-more, in_order-none}
use Rattle.gw_table.proofs.Frames.{effect-then, within-then, within-cond}

-- ---- accesses whose answer is told in another form

abbrev pub mapped : {A B : Type 0} → (A → B) → Accesses A → Accesses B
mapped g p = and_then p (λ x. Done (g x))

abbrev pub retold : {A B : Type 0} → (A → B) → Outcome A → Outcome B
retold g o = record { maps = o.maps; answer = g o.answer }

pub effect-mapped : {A B : Type 0} (g : A → B) (p : Accesses A) (m : Maps) (o : Outcome A) → effect p m ≡ o → effect (mapped g p) m ≡ retold g o
effect-mapped {A} {B} g p m o e = effect-then p (λ x. Done (g x)) m ∙ ap (λ (x : Outcome A). retold g x) e

pub within-mapped : {A B : Type 0} (keys : List Key) (g : A → B) (p : Accesses A) (m : Maps) → Within keys p m → Within keys (mapped g p) m
within-mapped keys g p m w = within-then keys p (λ x. Done (g x)) m w tt

-- ---- one after another

abbrev pub stopped_at : {S A : Type 0} → S → Bool → Attempts S A
stopped_at s b = record { next = s; answers = []; stopped = b }

abbrev pub both : {S A : Type 0} → Attempts S A → Attempts S A → Attempts S A
both now later = record { next = later.next; answers = now.answers ++ later.answers; stopped = later.stopped }

abbrev pub going_on : {S A : Type 0} → (S → Accesses (Attempts S A)) → Attempts S A → Accesses (Attempts S A)
going_on next now = and_then (cond now.stopped (Done (stopped_at now.next true)) (next now.next)) (λ later. Done (both now later))

abbrev pub in_turn : {X S A : Type 0} → (S → X → Accesses (Attempts S A)) → S → List X → Accesses (Attempts S A)
in_turn p s [] = Done (stopped_at s false)
in_turn p s (x ∷ xs) = and_then (p s x) (going_on (λ n. in_turn p n xs))

effect-cond : {S A : Type 0} (b : Bool) (s : S) (q : Accesses (Attempts S A)) (m : Maps) (o : Outcome (Attempts S A)) → effect q m ≡ o → effect (cond b (Done (stopped_at s true)) q) m ≡ (if b then none_from s true m else o)
effect-cond true s q m o e = refl
effect-cond false s q m o e = e

module _ {X S A : Type 0} (step : S → X → Maps → Outcome (Attempts S A)) (p : S → X → Accesses (Attempts S A)) (is : (s : S) (x : X) (m : Maps) → effect (p s x) m ≡ step s x m) where
  pub effect-in_turn : (s : S) (xs : List X) (m : Maps) → effect (in_turn p s xs) m ≡ in_order step s xs m
  effect-in_turn s [] m = sym (in_order-none step s m)
  effect-in_turn s (x ∷ xs) m =
      let now : Outcome (Attempts S A) = step s x m in
      let next : S → Accesses (Attempts S A) = λ n. in_turn p n xs in
      effect-then (p s x) (going_on next) m
      ∙ ap (λ (o : Outcome (Attempts S A)). effect (going_on next o.answer) o.maps) (is s x m)
      ∙ effect-then (cond now.answer.stopped (Done (stopped_at now.answer.next true)) (next now.answer.next)) (λ later. Done (both now.answer later)) now.maps
      ∙ ap (λ (o : Outcome (Attempts S A)). attempts_behind now.answer.answers o) (effect-cond now.answer.stopped now.answer.next (next now.answer.next) now.maps (in_order step now.answer.next xs now.maps) (effect-in_turn now.answer.next xs now.maps))
      ∙ sym (in_order-more step s x xs m)

  -- each of them within the keys
  pub within-more : (keys : List Key) (s : S) (x : X) (xs : List X) (m : Maps) → Within keys (p s x) m → Within keys (in_turn p (step s x m).answer.next xs) (step s x m).maps → Within keys (in_turn p s (x ∷ xs)) m
  within-more keys s x xs m w later =
      let now : Outcome (Attempts S A) = step s x m in
      let next : S → Accesses (Attempts S A) = λ n. in_turn p n xs in
      within-then keys (p s x) (going_on next) m w
      (subst (λ (o : Outcome (Attempts S A)). Within keys (going_on next o.answer) o.maps) (sym (is s x m))
      (within-then keys (cond now.answer.stopped (Done (stopped_at now.answer.next true)) (next now.answer.next)) (λ x. Done (both now.answer x)) now.maps
      (within-cond keys now.answer.stopped (Done (stopped_at now.answer.next true)) (next now.answer.next) now.maps tt later) tt))
