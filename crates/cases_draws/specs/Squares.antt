-- What is known of jobs that are squared by workers.
use Rattle.std.specs.Prelude.{◌≡◌, ℕ, ◌*◌, ◌<◌, List, length, slice_index_or, Result, IfOk}
use Rattle.gw_base.specs.declared.fault.NoMemory.{NoMemory}
use Rattle.cases_draws.specs.declared.cases.Job.{Job}

-- in each job's place is the square of its number, or a fault
abbrev pub AreSquares : List Job → List (Result ℕ NoMemory) → Type 0
AreSquares jobs answers =
    (i : ℕ) (j : Job) (d : Result ℕ NoMemory) → i < length jobs → IfOk (slice_index_or answers i d) (λ square. square ≡ (slice_index_or jobs i j).number * (slice_index_or jobs i j).number)
