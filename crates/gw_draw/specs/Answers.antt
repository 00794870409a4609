-- What workers answer of the jobs that they draw (own).
use Rattle.std.specs.Prelude.{◌≡◌, ℕ, ◌<◌, ◌≤◌, List, [], ◌∷◌, ◌++◌, length, slice_index_or, slice_set, Option, Some, None, IsSome}
use denote.Ref.{Bor}
use denote.Param.Members.{Shared}
use Rattle.gw_draw.specs.declared.table.View.{View}
use Rattle.gw_draw.specs.declared.table.Seat.{Seat}
use Rattle.gw_draw.specs.declared.table.Table.{Table}
use Rattle.gw_draw.specs.declared.map.Run.{Run}
use Rattle.gw_draw.specs.Draws.{view, times}

-- what the seat knows
abbrev pub view_of : Seat → View
view_of s = s.seat.me.0

-- the seat draws from this table
abbrev pub IsSeatOf : Table → Seat → Type 0
IsSeatOf t s = s.seat.table_id ≡ t.table.shared.table_id

-- a seat that has drawn nothing, with an allowance of 1
abbrev pub IsFresh : Table → ℕ → ℕ → Seat → Type 0
IsFresh t jobs workers s = IsSeatOf t s × (view_of s ≡ view [] 1 jobs workers)

-- the numbers of the answers, in their order
abbrev pub numbers : {R : Type 0} → List (ℕ × R) → List ℕ
numbers [] = []
numbers (a ∷ answers) = a.0 ∷ numbers answers

-- the answers, each written at its number's place
abbrev pub placed : {R : Type 0} → List (Option R) → List (ℕ × R) → List (Option R)
placed places [] = places
placed places (a ∷ answers) = placed (slice_set places a.0 (Some a.1)) answers

module _ {F J R : Type 0} (g : Shared F (Bor J × Unit {0}) R) (f : F) where
  -- f may be called on each job
  abbrev pub Accepts : List J → Type 0
  Accepts jobs = (i : ℕ) (p : Bor J) → i < length jobs → p.now ≡ slice_index_or jobs i p.now → g.pre f (p, tt)

  -- r is an answer of f on the job at this place
  pub record GivesAt (jobs : List J) (i : ℕ) (r : R) : Type 0 where
    pub inside : i < length jobs
    pub seen : Bor J
    pub shows : (d : J) → slice_index_or jobs i d ≡ seen.now
    pub call : g.post f (seen, tt) r

  -- in the place of each job is an answer of f on that job
  pub record GivesEach (jobs : List J) (rs : List R) : Type 0 where
    pub as_many : length rs ≡ length jobs
    pub each : (i : ℕ) (d : R) → i < length jobs → GivesAt jobs i (slice_index_or rs i d)

  -- A worker's run: it drew the numbers of the answers, in their order, and then one that is no job's. Each answer is
  -- of f on the job of its number.
  pub record HasRun (jobs : List J) (before after : View) (answers : List (ℕ × R)) : Type 0 where
    pub past : ℕ
    pub is_past : length jobs ≤ past
    pub drawn : after ≡ view (before.drawn ++ numbers answers ++ past ∷ []) before.allowance before.jobs before.workers
    pub each : (k : ℕ) (a : ℕ × R) → k < length answers → GivesAt jobs (slice_index_or answers k a).0 (slice_index_or answers k a).1

  -- a worker's run on a fresh seat
  abbrev pub IsRun : Table → List J → ℕ → Run R → Type 0
  IsRun t jobs workers run = IsSeatOf t run.seat × HasRun jobs (view [] 1 (length jobs) workers) (view_of run.seat) run.answers.items

  -- each place whose number was drawn has an answer, and each place an answer on its job or none
  pub record IsFilled (jobs : List J) (drawn : List ℕ) (places : List (Option R)) : Type 0 where
    pub len : length places ≡ length jobs
    pub full : (i : ℕ) → i < length jobs → 0 < times i drawn → IsSome (slice_index_or places i None)
    pub given : (i : ℕ) (r : R) → slice_index_or places i None ≡ Some r → GivesAt jobs i r

  -- the seat has taken over runs whose answers fill the places, and the last number of each is no job's
  pub record IsJoined (t : Table) (jobs : List J) (workers : ℕ) (seat : Seat) (places : List (Option R)) : Type 0 where
    pub table : IsSeatOf t seat
    pub knows : view_of seat ≡ view (view_of seat).drawn (view_of seat).allowance (length jobs) workers
    pub past : ℕ
    pub is_past : length jobs ≤ past
    pub has_past : 0 < times past (view_of seat).drawn
    pub filled : IsFilled jobs (view_of seat).drawn places
