-- Each kind of step keeps the draw rule.
use Rattle.std.proofs.Common.{◌≡◌, ℕ, suc, ◌+◌, ◌-◌, ◌%◌, ◌<◌, ◌≤◌, ◌≢◌, ⊎_elim, List, [], ◌∷◌, ◌++◌, get_or, set, sym, refl, ap, ◌∙◌, subst, arith, All, length-set, get_or-set_same, slice_index}
use mathlib.Core.Option.{some, some-injective, some-ne-none}
use lib.ListN.{get_elem?}
use Rattle.atomic_table.specs.Table.{State, Me, step, keeps, Allows, Splits, Joins, Final, Seen}
use Rattle.atomic_table.proofs.Lists.{at_set, at_snoc}
use Rattle.gw_draw.specs.declared.table.View.{View}
use Rattle.gw_draw.specs.Draws.{times, count_past, once_below, view, spent, with_draw, IsFair, AreDrawn, IsKept, Drew}
use Rattle.gw_draw.proofs.Sums.{total_set, total_snoc, total_le, total_at, total_alone, weigh-append, views_weighed, is, below-suc, past_one, past-below, none_past, past_one-facts, top-le}

abbrev S : Type 0
S = State (Unit {0}) View

abbrev M : Type 0
M = Me (Unit {0}) View

-- the word has not passed the jobs by more than the workers
pub few : (jobs workers : ℕ) (words : List ℕ) (views : List View) → AreDrawn jobs workers words views → slice_index words 0 ≤ jobs + workers
few jobs workers words views r =
    let n : ℕ = slice_index words 0 in
    let a = total_le (λ v. count_past jobs v.drawn) (λ v. v.allowance) views (λ k v e. (r.fair k v e).allowed) in
    let b = views_weighed n views r.each_once (past_one jobs) in
    let c = past-below jobs n in
    let d = r.allowances in
    omega arith

fair_set : (jobs workers : ℕ) (views : List View) (id : ℕ) (w : View) → ((k : ℕ) (v : View) → get_elem? views k ≡ some v → IsFair jobs workers v) → IsFair jobs workers w
    → (k : ℕ) (v : View) → get_elem? (set views id w) k ≡ some v → IsFair jobs workers v
fair_set jobs workers views id w all mine k v e =
    ⊎_elim (λ (t : (k ≡ id) × (w ≡ v)). subst (IsFair jobs workers) t.1 mine) (λ (t : (k ≢ id) × (get_elem? views k ≡ some v)). all k v t.1) (at_set views id k w v e)

fair_snoc : (jobs workers : ℕ) (views : List View) (w : View) → ((k : ℕ) (v : View) → get_elem? views k ≡ some v → IsFair jobs workers v) → IsFair jobs workers w
    → (k : ℕ) (v : View) → get_elem? (views ++ w ∷ []) k ≡ some v → IsFair jobs workers v
fair_snoc jobs workers views w all mine k v e =
    ⊎_elim (λ (t : get_elem? views k ≡ some v). all k v t) (λ (t : w ≡ v). subst (IsFair jobs workers) t mine) (at_snoc views w v k e)

-- ---- a draw

draw_fair : (jobs workers n : ℕ) (v : View) → IsFair jobs workers v → 0 < v.allowance → All (λ x. x < v.jobs) v.drawn → IsFair jobs workers (with_draw v n)
draw_fair jobs workers n v f allowed jobs_alone = grind (arith, none_past, weigh-append, past_one, past_one-facts)

pub draws : (jobs workers slots id : ℕ) (me : M) → 0 < me.0.allowance → All (λ x. x < me.0.jobs) me.0.drawn
    → Allows (IsKept jobs workers) slots id me 0 (λ n. (n + 1) % 18446744073709551616) (Drew (step slots 0 1 0 mathlib.Core.Option.none) me)
draws jobs workers slots id me allowed jobs_alone s r _ at _ =
    let n : ℕ = slice_index s.words 0 in
    let v : View = me.0 in
    let w : View = with_draw v n in
    let bound = few jobs workers s.words s.views r in
    let small = r.small in
    let one = r.one_word in
    let next : (n + 1) % 18446744073709551616 ≡ suc n = omega arith in
    let word : get_or (set s.words 0 ((n + 1) % 18446744073709551616)) 0 0 ≡ suc n = get_or-set_same s.words 0 _ 0 (omega arith) ∙ next in (
      w,
      keeps,
      tt,
      record {
        one_word = length-set s.words 0 _ ∙ one;
        small = small;
        each_once = λ x.
            let t = total_set (λ (u : View). times x u.drawn) s.views id v w at in
            let a = weigh-append (is x) v.drawn (n ∷ []) in
            let b = r.each_once x in
            let c : once_below (get_or (set s.words 0 ((n + 1) % 18446744073709551616)) 0 0) x ≡ once_below (suc n) x = ap (λ (m : ℕ). once_below m x) word in
            let d = below-suc n x in
            omega arith;
        allowances = (let t = total_set (λ (u : View). u.allowance) s.views id v w at in let b = r.allowances in omega arith);
        fair = fair_set jobs workers s.views id w r.fair (draw_fair jobs workers n v (r.fair id v at) allowed jobs_alone);
      },
      (refl, top-le n v.drawn (let t = total_at (λ (u : View). count_past n u.drawn) s.views id v at in let b = views_weighed n s.views r.each_once (past_one n) in let c = past-below n n in omega arith)),
    )

-- ---- splitting and joining

pub splits : (jobs workers id : ℕ) (v : View) → 1 < v.allowance → v.drawn ≡ [] → Splits (IsKept jobs workers) id v (view v.drawn (v.allowance - 1) v.jobs v.workers) (view [] 1 v.jobs v.workers)
splits jobs workers id v more none s r at =
    let left : View = view v.drawn (v.allowance - 1) v.jobs v.workers in
    let right : View = view [] 1 v.jobs v.workers in
    let same = (r.fair id v at).agrees (omega arith) in
    let blank : count_past jobs v.drawn ≡ 0 = ap (count_past jobs) none in
    let left_fair : IsFair jobs workers left = record { idle = λ z. none; agrees = λ q. same; allowed = omega arith } in
    let right_fair : IsFair jobs workers right = record { idle = λ z. refl; agrees = λ q. same; allowed = omega arith } in
    record {
      one_word = r.one_word;
      small = r.small;
      each_once = λ x.
          let t = total_set (λ (u : View). times x u.drawn) s.views id v left at in
          let a = total_snoc (λ (u : View). times x u.drawn) (set s.views id left) right in
          let b = r.each_once x in
          omega arith;
      allowances =
          (let t = total_set (λ (u : View). u.allowance) s.views id v left at in
          let a = total_snoc (λ (u : View). u.allowance) (set s.views id left) right in
          let b = r.allowances in
          omega arith);
      fair = fair_snoc jobs workers (set s.views id left) right (fair_set jobs workers s.views id left r.fair left_fair) right_fair;
    }

pub joins : (jobs workers id : ℕ) (v : View) (other : ℕ) (w : View) → 0 < v.allowance → Joins (IsKept jobs workers) id v other w (view (v.drawn ++ w.drawn) (v.allowance + w.allowance) v.jobs v.workers) spent
joins jobs workers id v other w allowed s r at apart there =
    let both : View = view (v.drawn ++ w.drawn) (v.allowance + w.allowance) v.jobs v.workers in
    let vs = set s.views id both in
    let fv = r.fair id v at in
    let fw : IsFair jobs workers w = ⊎_elim (λ (t : (other ≡ id) × (both ≡ w)). absurd (apart t.0)) (λ (t : (other ≢ id) × (get_elem? s.views other ≡ some w)). r.fair other w t.1) (at_set s.views id other both w there) in
    let av = fv.allowed in
    let aw = fw.allowed in
    let sum = weigh-append (past_one jobs) v.drawn w.drawn in
    let both_fair : IsFair jobs workers both = record { idle = λ z. absurd (omega arith); agrees = λ q. fv.agrees allowed; allowed = omega arith } in
    let spent_fair : IsFair jobs workers spent = record { idle = λ z. refl; agrees = λ q. absurd (omega arith); allowed = omega arith } in
    record {
      one_word = r.one_word;
      small = r.small;
      each_once = λ x.
          let t = total_set (λ (u : View). times x u.drawn) s.views id v both at in
          let a = total_set (λ (u : View). times x u.drawn) vs other w spent there in
          let p = weigh-append (is x) v.drawn w.drawn in
          let b = r.each_once x in
          omega arith;
      allowances =
          (let t = total_set (λ (u : View). u.allowance) s.views id v both at in
          let a = total_set (λ (u : View). u.allowance) vs other w spent there in
          let b = r.allowances in
          omega arith);
      fair = fair_set jobs workers vs other spent (fair_set jobs workers s.views id both r.fair both_fair) spent_fair;
    }

-- ---- closing

first_word : (ws : List ℕ) (n : ℕ) → get_elem? ws 0 ≡ some n → slice_index ws 0 ≡ n
first_word [] n e = absurd (some-ne-none n (sym e))
first_word (x ∷ ws) n e = some-injective x n e

-- when the table is closed, the seat with the whole allowance has drawn each number below the word
pub closes : (jobs workers id : ℕ) (v : View) (ws : List ℕ) (xs : List (Unit {0})) (n : ℕ) → Final (Seen (IsKept jobs workers) id v) ws xs → get_elem? ws 0 ≡ some n → 0 < v.allowance → v.allowance ≡ v.workers
    → (x : ℕ) → times x v.drawn ≡ once_below n x
closes jobs workers id v ws xs n f e allowed whole x =
    let s : S = f.0 in
    let r : IsKept jobs workers s = f.1.0 in
    let at : get_elem? s.views id ≡ some v = f.1.1 in
    let agreed = ((r.fair id v at).agrees allowed).1 in
    let b = r.allowances in
    let t = total_alone (λ (u : View). times x u.drawn) (λ (u : View). u.allowance) s.views id v at (λ k u e z. ap (times x) ((r.fair k u e).idle z)) (omega arith) in
    t ∙ (r.each_once x ∙ ap (λ (m : ℕ). once_below m x) (ap (λ (l : List ℕ). slice_index l 0) f.2 ∙ first_word ws n e))
