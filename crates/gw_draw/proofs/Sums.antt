-- Sums over lists of numbers and over views.
use Rattle.std.proofs.lemmas.Grind.{common_steps}
use Rattle.std.proofs.Common.{◌≡◌, ℕ, zero, suc, ◌+◌, ◌-◌, ◌<◌, ◌≤◌, ◌≢◌, ◌==◌, Bool, if◌then◌else◌, List, [], ◌∷◌, ◌++◌, set, sym, refl, ap, ◌∙◌, arith, All, nat_lt, eq-eqb, ne_eqb}
use mathlib.Core.Option.{some, some-injective, some-ne-none}
use mathlib.Core.Logic.{dite}
use native.Mathlib.Decide.{ℕ_discrete}
use lib.ListN.{get_elem?}
use Rattle.std.proofs.lemmas.Bool.Decides.{nat_tests}
use Rattle.std.proofs.lemmas.List.Elements.{All-head, All-tail}
use Rattle.gw_draw.specs.declared.table.View.{View}
use Rattle.gw_draw.specs.Draws.{weigh, times, count_past, once_below, total, top}

-- ---- sums over views

pub total_set : (f : View → ℕ) (vs : List View) (k : ℕ) (v w : View) → get_elem? vs k ≡ some v → total f (set vs k w) + f v ≡ total f vs + f w
total_set f [] k v w e = absurd (some-ne-none v (sym e))
total_set f (x ∷ xs) zero v w e = let s : f x ≡ f v = ap f (some-injective x v e) in omega arith
total_set f (x ∷ xs) (suc k) v w e = let h = total_set f xs k v w e in omega arith

pub total_snoc : (f : View → ℕ) (vs : List View) (w : View) → total f (vs ++ w ∷ []) ≡ total f vs + f w
total_snoc f [] w = omega arith
total_snoc f (x ∷ xs) w = let h = total_snoc f xs w in omega arith

pub total_le : (f g : View → ℕ) (vs : List View) → ((k : ℕ) (v : View) → get_elem? vs k ≡ some v → f v ≤ g v) → total f vs ≤ total g vs
total_le f g [] h = omega arith
total_le f g (x ∷ xs) h = let a = h zero x refl in let b = total_le f g xs (λ k v e. h (suc k) v e) in omega arith

pub total_at : (f : View → ℕ) (vs : List View) (k : ℕ) (v : View) → get_elem? vs k ≡ some v → f v ≤ total f vs
total_at f [] k v e = absurd (some-ne-none v (sym e))
total_at f (x ∷ xs) zero v e = let s : f x ≡ f v = ap f (some-injective x v e) in omega arith
total_at f (x ∷ xs) (suc k) v e = let h = total_at f xs k v e in omega arith

total_none : (f g : View → ℕ) (vs : List View) → ((k : ℕ) (v : View) → get_elem? vs k ≡ some v → g v ≡ 0 → f v ≡ 0) → total g vs ≡ 0 → total f vs ≡ 0
total_none f g [] h z = refl
total_none f g (x ∷ xs) h z = let a = h zero x refl (omega arith) in let b = total_none f g xs (λ k v e. h (suc k) v e) (omega arith) in omega arith

-- where one view has the whole of g, and f is 0 wherever g is, it has the whole of f
pub total_alone : (f g : View → ℕ) (vs : List View) (k : ℕ) (v : View) → get_elem? vs k ≡ some v → ((k : ℕ) (v : View) → get_elem? vs k ≡ some v → g v ≡ 0 → f v ≡ 0) → g v ≡ total g vs → f v ≡ total f vs
total_alone f g [] k v e h z = absurd (some-ne-none v (sym e))
total_alone f g (x ∷ xs) zero v e h z = let s : x ≡ v = some-injective x v e in let p = ap f s in let q = ap g s in let b = total_none f g xs (λ k v e. h (suc k) v e) (omega arith) in omega arith
total_alone f g (x ∷ xs) (suc k) v e h z = let at = total_at g xs k v e in let a = h zero x refl (omega arith) in let b = total_alone f g xs k v e (λ k v e. h (suc k) v e) (omega arith) in omega arith

-- ---- sums over numbers

pub weigh-append : (h : ℕ → ℕ) (xs ys : List ℕ) → weigh h (xs ++ ys) ≡ weigh h xs + weigh h ys
weigh-append h [] ys = omega arith
weigh-append h (x ∷ xs) ys = let i = weigh-append h xs ys in omega arith

-- 1 at x
abbrev pub is : ℕ → ℕ → ℕ
is x y = if y == x then 1 else 0

pub is-same : (x : ℕ) → is x x ≡ 1
is-same x = ap (λ (b : Bool). if b then 1 else 0) (eq-eqb x x refl)

pub is-other : (x y : ℕ) → y ≢ x → is x y ≡ 0
is-other x y ne = ap (λ (b : Bool). if b then 1 else 0) (ne_eqb y x ne)

-- 1 at a number that is no job's
abbrev pub past_one : ℕ → ℕ → ℕ
past_one jobs y = if nat_lt y jobs then 0 else 1

pub past_one-facts : (n x : ℕ) → (x < n → past_one n x ≡ 0) × (past_one n x ≡ 0 → x < n) × (past_one n x ≤ 1)
past_one-facts n x = (λ l. grind (arith, nat_tests), λ e. grind (arith, nat_tests), grind (arith, nat_tests))

pub once_below-facts : (n x : ℕ) → (x < n → once_below n x ≡ 1) × (n ≤ x → once_below n x ≡ 0) × (0 < once_below n x → x < n)
once_below-facts n x = (λ l. grind (arith, nat_tests), λ l. grind (arith, nat_tests), λ l. grind (arith, nat_tests))

-- one more number
pub below-suc : (n x : ℕ) → once_below n x + is x n ≡ once_below (suc n) x
below-suc n x = grind (arith, common_steps)

-- what is left of a list when a number that stands in it is taken out once
pub removed : (x : ℕ) (xs : List ℕ) → 0 < times x xs → (ys : List ℕ) × ((h : ℕ → ℕ) → weigh h xs ≡ weigh h ys + h x)
removed x [] stands = absurd (omega arith)
removed x (y ∷ xs) stands = dite (ℕ_discrete y x)
    (λ (e : y ≡ x). (xs, λ h. let s : h y ≡ h x = ap h e in omega arith))
    (λ (ne : y ≢ x). let z = is-other x y ne in let r = removed x xs (omega arith) in (y ∷ r.0, λ h. let i = r.1 h in omega arith))

-- the numbers below n, weighed and added up
abbrev pub sum_below : (ℕ → ℕ) → ℕ → ℕ
sum_below h zero = 0
sum_below h (suc n) = sum_below h n + h n

-- a list that has each number below n once, and no other, weighs what these numbers weigh
pub weighed : (n : ℕ) (xs : List ℕ) → ((x : ℕ) → times x xs ≡ once_below n x) → (h : ℕ → ℕ) → weigh h xs ≡ sum_below h n
weighed zero [] e h = refl
weighed zero (x ∷ xs) e h = let t = e x in let o = (once_below-facts 0 x).1 (omega arith) in let s = is-same x in absurd (omega arith)
weighed (suc n) xs e h =
    let t = e n in
    let o = (once_below-facts (suc n) n).0 (omega arith) in
    let r = removed n xs (omega arith) in
    let same : (x : ℕ) → times x r.0 ≡ once_below n x = λ x. let a = e x in let b = r.1 (is x) in let c = below-suc n x in omega arith in
    let i = weighed n r.0 same h in
    let w = r.1 h in
    omega arith

abbrev all_drawn : List View → List ℕ
all_drawn [] = []
all_drawn (v ∷ vs) = v.drawn ++ all_drawn vs

total-weigh : (h : ℕ → ℕ) (vs : List View) → total (λ v. weigh h v.drawn) vs ≡ weigh h (all_drawn vs)
total-weigh h [] = refl
total-weigh h (v ∷ vs) = let i = total-weigh h vs in let a = weigh-append h v.drawn (all_drawn vs) in omega arith

-- so do the lists of all views
pub views_weighed : (n : ℕ) (vs : List View) → ((x : ℕ) → total (λ v. times x v.drawn) vs ≡ once_below n x) → (h : ℕ → ℕ) → total (λ v. weigh h v.drawn) vs ≡ sum_below h n
views_weighed n vs e h = total-weigh h vs ∙ weighed n (all_drawn vs) (λ x. sym (total-weigh (is x) vs) ∙ e x) h

past-at : (jobs n : ℕ) → suc n - jobs ≡ n - jobs + past_one jobs n
past-at jobs n = grind (arith, nat_tests)

pub past-below : (jobs n : ℕ) → sum_below (past_one jobs) n ≡ n - jobs
past-below jobs zero = omega arith
past-below jobs (suc n) = let h = past-below jobs n in let s = past-at jobs n in omega arith

-- a list of job numbers has none that is no job's
pub none_past : (jobs : ℕ) (xs : List ℕ) → All (λ x. x < jobs) xs → count_past jobs xs ≡ 0
none_past jobs [] h = refl
none_past jobs (x ∷ xs) h =
    let a = (past_one-facts jobs x).0 (All-head (λ (x : ℕ). x < jobs) x xs h) in
    let b = none_past jobs xs (All-tail (λ (x : ℕ). x < jobs) x xs h) in
    omega arith

-- where no number of the list is n or more, n is above the list
pub top-le : (n : ℕ) (xs : List ℕ) → count_past n xs ≡ 0 → top xs ≤ n
top-le n [] z = omega arith
top-le n (x ∷ xs) z =
    let i = top-le n xs (omega arith) in
    let l : x < n = (past_one-facts n x).1 (omega arith) in
    omega arith
