-- The answers of all runs have each job once.
use Rattle.std.proofs.Common.{◌≡◌, ℕ, ◌+◌, ◌<◌, ◌≤◌, List, [], ◌∷◌, ◌++◌, All, length, refl, arith}
use Rattle.std.proofs.lemmas.Bool.{cases_lt}
use Rattle.std.proofs.lemmas.List.Elements.{All-head, All-tail}
use Rattle.gw_draw.specs.Draws.{times, once_below}
use Rattle.gw_draw.specs.Runs.{drawn_in, answered_in, EachJobOnce}
use Rattle.gw_draw.proofs.Sums.{weigh-append, is, is-same, is-other, once_below-facts}

-- the numbers at which the runs ended
abbrev ends : List (List ℕ × ℕ) → List ℕ
ends [] = []
ends (r ∷ runs) = r.1 ∷ ends runs

times-drawn : (x : ℕ) (runs : List (List ℕ × ℕ)) → times x (drawn_in runs) ≡ times x (answered_in runs) + times x (ends runs)
times-drawn x [] = refl
times-drawn x (r ∷ runs) =
    let i = times-drawn x runs in
    let a = weigh-append (is x) (r.0 ++ r.1 ∷ []) (drawn_in runs) in
    let b = weigh-append (is x) r.0 (r.1 ∷ []) in
    let c = weigh-append (is x) r.0 (answered_in runs) in
    omega arith

no_end : (jobs x : ℕ) (runs : List (List ℕ × ℕ)) → All (λ r. jobs ≤ r.1) runs → x < jobs → times x (ends runs) ≡ 0
no_end jobs x [] all l = refl
no_end jobs x (r ∷ runs) all l =
    let past : jobs ≤ r.1 = All-head (λ (r : List ℕ × ℕ). jobs ≤ r.1) r runs all in
    let z = is-other x r.1 (λ e. absurd (omega arith)) in
    let i = no_end jobs x runs (All-tail (λ (r : List ℕ × ℕ). jobs ≤ r.1) r runs all) l in
    omega arith

not_past : (jobs x : ℕ) (xs : List ℕ) → All (λ y. y < jobs) xs → jobs ≤ x → times x xs ≡ 0
not_past jobs x [] all l = refl
not_past jobs x (y ∷ xs) all l =
    let inside : y < jobs = All-head (λ (y : ℕ). y < jobs) y xs all in
    let z = is-other x y (λ e. absurd (omega arith)) in
    let i = not_past jobs x xs (All-tail (λ (y : ℕ). y < jobs) y xs all) l in
    omega arith

-- the word has passed the jobs
passed : (jobs n : ℕ) (runs : List (List ℕ × ℕ)) → 0 < length runs → All (λ r. jobs ≤ r.1) runs → ((x : ℕ) → times x (drawn_in runs) ≡ once_below n x) → jobs < n
passed jobs n [] l all e = absurd (omega arith)
passed jobs n (r ∷ runs) l all e =
    let past : jobs ≤ r.1 = All-head (λ (r : List ℕ × ℕ). jobs ≤ r.1) r runs all in
    let s = is-same r.1 in
    let t = times-drawn r.1 (r ∷ runs) in
    let b = e r.1 in
    let o = (once_below-facts n r.1).2 (omega arith) in
    omega arith

by_place : (jobs n x : ℕ) (runs : List (List ℕ × ℕ)) → jobs < n → All (λ r. jobs ≤ r.1) runs → All (λ x. x < jobs) (answered_in runs) → times x (drawn_in runs) ≡ once_below n x → times x (answered_in runs) ≡ once_below jobs x
by_place jobs n x runs past all inside e = grind (arith, times-drawn, once_below-facts, cases_lt, no_end, not_past)

pub each_job_once : EachJobOnce
each_job_once jobs n runs l all inside e x = by_place jobs n x runs (passed jobs n runs l all e) all inside (e x)
