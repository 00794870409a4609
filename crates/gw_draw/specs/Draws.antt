-- The word from which jobs are drawn, and what each worker's seat knows of it (own).
use Rattle.std.specs.Prelude.{◌≡◌, ℕ, suc, ◌+◌, ◌<◌, ◌≤◌, ◌^◌, ◌==◌, nat_lt, if◌then◌else◌, max, List, [], ◌∷◌, ◌++◌, length, slice_index}
use mathlib.Core.Option.{some}
use lib.ListN.{get_elem?}
use Rattle.atomic_table.specs.Table.{State, Step, Me}
use Rattle.gw_draw.specs.declared.table.View.{View}

-- the numbers, weighed and added up
abbrev pub weigh : (ℕ → ℕ) → List ℕ → ℕ
weigh h [] = 0
weigh h (x ∷ xs) = h x + weigh h xs

-- how often x stands in the list
abbrev pub times : ℕ → List ℕ → ℕ
times x xs = weigh (λ y. if y == x then 1 else 0) xs

-- how many numbers of the list are no job's
abbrev pub count_past : ℕ → List ℕ → ℕ
count_past jobs xs = weigh (λ y. if nat_lt y jobs then 0 else 1) xs

-- once below n, and not at all from n on
abbrev pub once_below : ℕ → ℕ → ℕ
once_below n x = if nat_lt x n then 1 else 0

-- added up over all views
abbrev pub total : (View → ℕ) → List View → ℕ
total f [] = 0
total f (v ∷ vs) = f v + total f vs

-- above each number of the list
abbrev pub top : List ℕ → ℕ
top [] = 0
top (x ∷ xs) = max (suc x) (top xs)

-- the numbers drawn, in their order, an allowance, and how many jobs and workers there are
abbrev pub view : List ℕ → ℕ → ℕ → ℕ → View
view drawn allowance jobs workers = record { drawn = drawn; allowance = allowance; jobs = jobs; workers = workers }

-- what is left of a view that another has taken over
abbrev pub spent : View
spent = view [] 0 0 0

-- the view after a draw of n
abbrev pub with_draw : View → ℕ → View
with_draw v n = view (v.drawn ++ n ∷ []) v.allowance v.jobs v.workers

-- A view that is not spent has an allowance, and says how many jobs and workers there are. At most as many of its
-- numbers are no job's as its allowance.
pub record IsFair (jobs workers : ℕ) (v : View) : Type 0 where
  pub idle : v.allowance ≡ 0 → v.drawn ≡ []
  pub agrees : 0 < v.allowance → (v.jobs ≡ jobs) × (v.workers ≡ workers)
  pub allowed : count_past jobs v.drawn ≤ v.allowance

-- The draw rule, where the word is n: the lists of all views hold together each number below n once and no other, and
-- their allowances add up to the workers.
pub record AreDrawn (jobs workers : ℕ) (words : List ℕ) (views : List View) : Type 0 where
  pub one_word : length words ≡ 1
  pub small : jobs + workers < 2 ^ 63
  pub each_once : (x : ℕ) → total (λ v. times x v.drawn) views ≡ once_below (slice_index words 0) x
  pub allowances : total (λ v. v.allowance) views ≡ workers
  pub fair : (k : ℕ) (v : View) → get_elem? views k ≡ some v → IsFair jobs workers v

abbrev pub IsKept : ℕ → ℕ → State (Unit {0}) View → Type 0
IsKept jobs workers s = AreDrawn jobs workers s.words s.views

-- the number found goes last on the seat's list, and is above those before it
abbrev pub Drew : Step (Unit {0}) → Me (Unit {0}) View → ℕ → Me (Unit {0}) View → Type 0
Drew s before n after = (after ≡ (with_draw before.0 n, before.1)) × (top before.0.drawn ≤ n)
