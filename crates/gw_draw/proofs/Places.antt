-- Answers in their jobs' places.
use Rattle.std.proofs.lemmas.Grind.{common_steps}
use Rattle.std.proofs.Common.{◌≡◌, ℕ, zero, suc, ◌<◌, ◌≤◌, ◌≢◌, List, [], ◌∷◌, ◌++◌, All, length, set, get_or, max, sym, refl, ap, ◌∙◌, subst, arith, append_assoc, append-nil, length-set, get_or-set_same, get_or-set_other, map, replicate, Option, Some, None, IsSome}
use mathlib.Core.Logic.{dite}
use Rattle.std.proofs.lemmas.List.{get_or-map, length-map}
use Rattle.std.proofs.lemmas.List.Elements.{All-push}
use native.Mathlib.Decide.{ℕ_discrete}
use Rattle.gw_draw.proofs.Sums.{weigh-append, is, is-same, is-other}
use denote.Ref.{Bor}
use denote.Param.Members.{Shared}
use Rattle.gw_draw.specs.declared.table.View.{View}
use Rattle.gw_draw.specs.Draws.{times, top, view, with_draw}
use Rattle.gw_draw.specs.Answers.{numbers, placed, GivesAt, HasRun, IsFilled, GivesEach}

-- ---- a run, one answer after another

numbers-snoc : {R : Type 0} (ns : List (ℕ × R)) (a : ℕ × R) → numbers (ns ++ a ∷ []) ≡ numbers ns ++ a.0 ∷ []
numbers-snoc [] a = refl
numbers-snoc (x ∷ xs) a = ap (λ (l : List ℕ). x.0 ∷ l) (numbers-snoc xs a)

pub top-snoc : (xs : List ℕ) (n : ℕ) → top (xs ++ n ∷ []) ≡ max (top xs) (suc n)
top-snoc [] n = omega arith
top-snoc (x ∷ xs) n = let h = top-snoc xs n in omega arith

module _ {F J R : Type 0} (g : Shared F (Bor J × Unit {0}) R) (f : F) where
  pub each_more : (js : List J) (xs ys : List (ℕ × R)) (b : ℕ × R) → ys ≡ xs ++ b ∷ [] → All (λ a. GivesAt g f js a.0 a.1) xs → GivesAt g f js b.0 b.1 → All (λ a. GivesAt g f js a.0 a.1) ys
  each_more js xs ys b e h m = subst (All (λ a. GivesAt g f js a.0 a.1)) (sym e) (All-push (λ a. GivesAt g f js a.0 a.1) xs b h m)

pub view_more : {R : Type 0} (v0 v1 v2 : View) (ns ms : List (ℕ × R)) (a : ℕ × R) → v1 ≡ view (v0.drawn ++ numbers ns) v0.allowance v0.jobs v0.workers → v2 ≡ with_draw v1 a.0 → ms ≡ ns ++ a ∷ []
    → v2 ≡ view (v0.drawn ++ numbers ms) v0.allowance v0.jobs v0.workers
view_more {R} v0 v1 v2 ns ms a e1 e2 e3 = grind (arith, append_assoc, numbers-snoc)

pub alone_more : (jobs : ℕ) (v1 v2 : View) (n : ℕ) → v2 ≡ with_draw v1 n → All (λ x. x < jobs) v1.drawn → n < jobs → All (λ x. x < jobs) v2.drawn
alone_more jobs v1 v2 n e alone l = grind (arith, common_steps)

-- ---- places

module _ {F J R : Type 0} (g : Shared F (Bor J × Unit {0}) R) (f : F) (js : List J) where
  pub filled_none : IsFilled g f js [] (replicate (length js) None)
  filled_none = grind (arith, common_steps)

  filled_set : (ds : List ℕ) (out : List (Option R)) (j : ℕ) (r : R) → IsFilled g f js ds out → GivesAt g f js j r → IsFilled g f js (ds ++ j ∷ []) (set out j (Some r))
  filled_set ds out j r h m =
      let len = h.len in
      let inside = m.inside in
      record {
        len = length-set out j (Some r) ∙ len;
        full = λ i l t. dite (ℕ_discrete i j)
            (λ (e : i ≡ j). subst (λ (k : ℕ). IsSome (get_or (set out j (Some r)) k None)) (sym e) (subst IsSome (sym (get_or-set_same out j (Some r) None (omega arith))) refl))
            (λ (ne : i ≢ j).
            let a = weigh-append (is i) ds (j ∷ []) in
            let z = is-other i j (λ e. ne (sym e)) in
            subst IsSome (sym (get_or-set_other out j i (Some r) None ne)) (h.full i l (omega arith)));
        given = λ i q e. dite (ℕ_discrete i j)
            (λ (same : i ≡ j).
            let s = get_or-set_same out j (Some r) None (omega arith) in
            let k : get_or (set out j (Some r)) i None ≡ get_or (set out j (Some r)) j None = ap (λ (n : ℕ). get_or (set out j (Some r)) n None) same in
            let v : r ≡ q = cc in
            subst (λ (t : ℕ × R). GivesAt g f js t.0 t.1) (λ x. (sym same x, v x)) m)
            (λ (ne : i ≢ j). h.given i q (sym (get_or-set_other out j i (Some r) None ne) ∙ e));
      }

  filled_placed : (ns : List (ℕ × R)) (ds : List ℕ) (out : List (Option R)) → IsFilled g f js ds out → ((k : ℕ) (a : ℕ × R) → k < length ns → GivesAt g f js (get_or ns k a).0 (get_or ns k a).1)
      → IsFilled g f js (ds ++ numbers ns) (placed out ns)
  filled_placed [] ds out h m = subst (λ (l : List ℕ). IsFilled g f js l out) (sym (append-nil ds)) h
  filled_placed (a ∷ ns) ds out h m =
      let step = filled_set ds out a.0 a.1 h (m zero a (omega arith)) in
      subst (λ (l : List ℕ). IsFilled g f js l (placed (set out a.0 (Some a.1)) ns)) (append_assoc ds (a.0 ∷ []) (numbers ns))
      (filled_placed ns (ds ++ a.0 ∷ []) (set out a.0 (Some a.1)) step (λ k b l. m (suc k) b (omega arith)))

  filled_past : (ds : List ℕ) (p : ℕ) (out : List (Option R)) → IsFilled g f js ds out → length js ≤ p → IsFilled g f js (ds ++ p ∷ []) out
  filled_past ds p out h l = grind (arith, weigh-append, is, is-other)

  -- a worker's run adds its numbers and its answers
  pub filled_more : (ds : List ℕ) (out : List (Option R)) (workers : ℕ) (w : View) (ns : List (ℕ × R)) → IsFilled g f js ds out → HasRun g f js (view [] 1 (length js) workers) w ns → IsFilled g f js (ds ++ w.drawn) (placed out ns)
  filled_more ds out workers w ns h d =
      let run : w.drawn ≡ numbers ns ++ d.past ∷ [] = ap (λ (v : View). v.drawn) d.drawn in
      subst (λ (l : List ℕ). IsFilled g f js l (placed out ns)) (append_assoc ds (numbers ns) (d.past ∷ []) ∙ ap (λ (l : List ℕ). ds ++ l) (sym run))
      (filled_past (ds ++ numbers ns) d.past (placed out ns) (filled_placed ns ds out h d.each) d.is_past)

  -- a worker has drawn the number at which its run ended
  pub has_past : (workers : ℕ) (w : View) (ns : List (ℕ × R)) → (d : HasRun g f js (view [] 1 (length js) workers) w ns) → 0 < times d.past w.drawn
  has_past workers w ns d = grind (arith, weigh-append, is, is-same)

  pub gives_each : (ds : List ℕ) (out : List (Option R)) (rs : List R) → IsFilled g f js ds out → map (λ r. Some r) rs ≡ out → GivesEach g f js rs
  gives_each ds out rs h e =
      let same : length rs ≡ length out = sym (length-map rs (λ (r : R). Some r)) ∙ ap length e in
      let len = h.len in
      record {
        as_many = same ∙ h.len;
        each = λ i d l. h.given i (get_or rs i d) (ap (λ (o : List (Option R)). get_or o i None) (sym e) ∙ get_or-map (λ (r : R). Some r) rs i d None (omega arith));
      }

-- ---- the loops over answers and places

pub place_step : {R : Type 0} (out next whole : List (Option R)) (a : ℕ × R) (now after : List (ℕ × R)) → now ≡ a ∷ after → next ≡ set out a.0 (Some a.1) → placed out now ≡ whole → placed next after ≡ whole
place_step out next whole a now after e n h = ap (λ (o : List (Option _)). placed o after) n ∙ (sym (ap (placed out) e) ∙ h)

pub inside_step : {R : Type 0} (m n : ℕ) (x : ℕ × R) (now after : List (ℕ × R)) → now ≡ x ∷ after → n ≡ m → ((k : ℕ) (a : ℕ × R) → k < length now → (get_or now k a).0 < m) → (k : ℕ) (a : ℕ × R) → k < length after → (get_or after k a).0 < n
inside_step {R} m n x now after e same h k a l =
    let whole : (k : ℕ) (a : ℕ × R) → k < length (x ∷ after) → (get_or (x ∷ after) k a).0 < m = subst (λ (t : List (ℕ × R)). (k : ℕ) (a : ℕ × R) → k < length t → (get_or t k a).0 < m) e h in
    subst (λ (t : ℕ). (get_or after k a).0 < t) (sym same) (whole (suc k) a (omega arith))

pub inside_head : {R : Type 0} (m : ℕ) (x : ℕ × R) (now after : List (ℕ × R)) → now ≡ x ∷ after → ((k : ℕ) (a : ℕ × R) → k < length now → (get_or now k a).0 < m) → x.0 < m
inside_head {R} m x now after e h = grind (arith, common_steps)

pub unwrap_step : {R : Type 0} (xs ys : List R) (x : R) (now after whole : List (Option R)) → now ≡ Some x ∷ after → ys ≡ xs ++ x ∷ [] → map (λ y. Some y) xs ++ now ≡ whole → map (λ y. Some y) ys ++ after ≡ whole
unwrap_step {R} xs ys x now after whole e n h = grind (arith, common_steps)

pub some_step : {R : Type 0} (x : Option R) (now after : List (Option R)) → now ≡ x ∷ after → ((k : ℕ) → k < length now → IsSome (get_or now k None)) → IsSome x × ((k : ℕ) → k < length after → IsSome (get_or after k None))
some_step {R} x now after e h =
    let whole : (k : ℕ) → k < length (x ∷ after) → IsSome (get_or (x ∷ after) k None) = subst (λ (t : List (Option R)). (k : ℕ) → k < length t → IsSome (get_or t k None)) e h in
    (whole zero (omega arith), λ k l. whole (suc k) (omega arith))
