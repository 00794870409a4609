-- What the draw rule is worth to whoever joins the seats of all workers (own).
use Rattle.std.specs.Prelude.{◌≡◌, ℕ, ◌+◌, ◌<◌, ◌≤◌, List, [], ◌∷◌, ◌++◌, All, length, slice_index}
use Rattle.gw_draw.specs.declared.table.View.{View}
use Rattle.gw_draw.specs.Draws.{times, once_below, AreDrawn}

-- Runs of workers, each from an empty list: the numbers of its answers, in their order, and the number at which it
-- ended. The list of a seat that has taken over all of them
abbrev pub drawn_in : List (List ℕ × ℕ) → List ℕ
drawn_in [] = []
drawn_in (r ∷ runs) = (r.0 ++ r.1 ∷ []) ++ drawn_in runs

-- the numbers of all answers
abbrev pub answered_in : List (List ℕ × ℕ) → List ℕ
answered_in [] = []
answered_in (r ∷ runs) = r.0 ++ answered_in runs

-- Where the seat that took over all runs has each number below n once and no other, each run ended past the jobs, and
-- answers are of jobs alone, the answers have each job once, and none is left out.
abbrev pub EachJobOnce : Type 0
EachJobOnce =
    (jobs n : ℕ) (runs : List (List ℕ × ℕ)) → 0 < length runs → All (λ r. jobs ≤ r.1) runs → All (λ x. x < jobs) (answered_in runs)
    → ((x : ℕ) → times x (drawn_in runs) ≡ once_below n x) → (x : ℕ) → times x (answered_in runs) ≡ once_below jobs x

-- the word does not pass the jobs by more than the workers
abbrev pub StaysNear : Type 0
StaysNear = (jobs workers : ℕ) (words : List ℕ) (views : List View) → AreDrawn jobs workers words views → slice_index words 0 ≤ jobs + workers
