-- The open places are listed in the order of opening, so that a job that is not drawn is found.
use Rattle.std.proofs.Common.{nat_eq, ◌≡◌, ℕ, zero, suc, ◌<◌, Bool, true, false, cond, not, List, [], ◌∷◌, ◌++◌, map, length, Option, None, Some, refl, sym, ap, subst, ◌∙◌, eqb-true, eq-eqb}
use Rattle.std.specs.Prelude.{◌≢◌, ◌||◌, slice_get, slice_set, find}
use Rattle.std.specs.List.{list_any}
use Rattle.gw_board.specs.declared.profile.Profile.{Profile}
use Rattle.gw_base.proofs.NamesInLists.{or_cases, either}
use Rattle.gw_table.specs.Maps.{Maps}
use Rattle.gw_table.specs.Parts.{restricted}
use Rattle.gw_board.specs.Carried.{BurstRequest}
use Rattle.gw_board.specs.Core.{Standing, Pending, Opened, Closed, Place, Job, Core, pending, open_with, closed_with, start, undrawn_at, is_undrawn, drawn, without_place, MayDraw, Event, Open, Draw, Close, Return, Events, none, more}
use Rattle.gw_board.specs.Results.{is_open, is_open_at}

-- ---- lists of numbers

not_same : (k i : ℕ) → nat_eq k i ≡ false → k ≢ i
not_same k i e s = let clash : true ≡ false = sym (eq-eqb k i s) ∙ e in cc

or_last : (b c : Bool) → c ≡ true → (b || (c || false)) ≡ true
or_last true c e = refl
or_last false true e = refl
or_last false false e = absurd cc

or_none : (b c : Bool) → c ≡ false → (b || (c || false)) ≡ b
or_none true c e = refl
or_none false true e = absurd cc
or_none false false e = refl

listed-append : (k : ℕ) (l : List ℕ) (i : ℕ) → list_any (nat_eq k) (l ++ i ∷ []) ≡ (list_any (nat_eq k) l || (nat_eq k i || false))
listed-append k [] i = refl
listed-append k (x ∷ xs) i = ap (λ b. nat_eq k x || b) (listed-append k xs i) ∙ grouped (nat_eq k x) (list_any (nat_eq k) xs) (nat_eq k i || false)
  where
    grouped : (a b c : Bool) → (a || (b || c)) ≡ ((a || b) || c)
    grouped true b c = refl
    grouped false b c = refl

gone : (i : ℕ) (l : List ℕ) → list_any (nat_eq i) (without_place i l) ≡ false
gone i [] = refl
gone i (x ∷ xs) = by (nat_eq i x) refl (gone i xs)
  where
    by : (b : Bool) → nat_eq i x ≡ b → list_any (nat_eq i) (without_place i xs) ≡ false → list_any (nat_eq i) (cond (not b) (x ∷ without_place i xs) (without_place i xs)) ≡ false
    by true e h = h
    by false e h = ap (λ b. b || list_any (nat_eq i) (without_place i xs)) e ∙ h

others_listed : (k i : ℕ) → nat_eq k i ≡ false → (l : List ℕ) → list_any (nat_eq k) (without_place i l) ≡ list_any (nat_eq k) l
others_listed k i n [] = refl
others_listed k i n (x ∷ xs) = by (nat_eq i x) refl (nat_eq k x) refl (others_listed k i n xs)
  where
    by : (b : Bool) → nat_eq i x ≡ b → (c : Bool) → nat_eq k x ≡ c → list_any (nat_eq k) (without_place i xs) ≡ list_any (nat_eq k) xs
        → list_any (nat_eq k) (cond (not b) (x ∷ without_place i xs) (without_place i xs)) ≡ (nat_eq k x || list_any (nat_eq k) xs)
    by false e c f h = ap (λ b. nat_eq k x || b) h
    by true e true f h = absurd (not_same k i n (eqb-true k x f ∙ sym (eqb-true i x e)))
    by true e false f h = h ∙ ap (λ b. b || list_any (nat_eq k) xs) (sym f)

-- ---- a place that is set

pub set_here : {X : Type 0} (xs : List X) (i : ℕ) (x new : X) → slice_get xs i ≡ Some x → slice_get (slice_set xs i new) i ≡ Some new
set_here [] i x new e = absurd cc
set_here (y ∷ ys) zero x new e = refl
set_here (y ∷ ys) (suc i) x new e = set_here ys i x new e

set_elsewhere : {X : Type 0} (xs : List X) (i k : ℕ) (new : X) → k ≢ i → slice_get (slice_set xs i new) k ≡ slice_get xs k
set_elsewhere [] i k new n = refl
set_elsewhere (y ∷ ys) zero zero new n = absurd (n refl)
set_elsewhere (y ∷ ys) zero (suc k) new n = refl
set_elsewhere (y ∷ ys) (suc i) zero new n = refl
set_elsewhere (y ∷ ys) (suc i) (suc k) new n = set_elsewhere ys i k new (λ e. n (ap suc e))

-- ---- what is listed is open

abbrev AreListed : List ℕ → List Place → Type 0
AreListed opened places = (k : ℕ) → list_any (nat_eq k) opened ≡ is_open_at (slice_get places k)

module _ (opened : List ℕ) (places : List Place) (l : AreListed opened places) (i : ℕ) (x new : Place) (e : slice_get places i ≡ Some x) where
  here : (k : ℕ) → nat_eq k i ≡ true → is_open_at (slice_get (slice_set places i new) k) ≡ is_open new.standing
  here k n = ap (λ j. is_open_at (slice_get (slice_set places i new) j)) (eqb-true k i n) ∙ ap (λ o. is_open_at o) (set_here places i x new e)

  elsewhere : (k : ℕ) → nat_eq k i ≡ false → is_open_at (slice_get places k) ≡ is_open_at (slice_get (slice_set places i new) k)
  elsewhere k n = ap (λ o. is_open_at o) (sym (set_elsewhere places i k new (not_same k i n)))

  opens : is_open new.standing ≡ true → AreListed (opened ++ i ∷ []) (slice_set places i new)
  opens h k = listed-append k opened i ∙ by (nat_eq k i) refl
    where
      by : (b : Bool) → nat_eq k i ≡ b → (list_any (nat_eq k) opened || (nat_eq k i || false)) ≡ is_open_at (slice_get (slice_set places i new) k)
      by true n = or_last (list_any (nat_eq k) opened) (nat_eq k i) n ∙ sym (here k n ∙ h)
      by false n = or_none (list_any (nat_eq k) opened) (nat_eq k i) n ∙ l k ∙ elsewhere k n

  shuts : is_open new.standing ≡ false → AreListed (without_place i opened) (slice_set places i new)
  shuts h k = by (nat_eq k i) refl
    where
      by : (b : Bool) → nat_eq k i ≡ b → list_any (nat_eq k) (without_place i opened) ≡ is_open_at (slice_get (slice_set places i new) k)
      by true n = ap (λ j. list_any (nat_eq j) (without_place i opened)) (eqb-true k i n) ∙ gone i opened ∙ sym (here k n ∙ h)
      by false n = others_listed k i n opened ∙ l k ∙ elsewhere k n

  stays : is_open new.standing ≡ is_open x.standing → AreListed opened (slice_set places i new)
  stays h k = l k ∙ by (nat_eq k i) refl
    where
      by : (b : Bool) → nat_eq k i ≡ b → is_open_at (slice_get places k) ≡ is_open_at (slice_get (slice_set places i new) k)
      by true n = ap (λ j. is_open_at (slice_get places j)) (eqb-true k i n) ∙ ap (λ o. is_open_at o) e ∙ sym h ∙ sym (here k n)
      by false n = elsewhere k n

module _ (profile : Profile) where
  listed_on : (s t : Core) → AreListed s.opened s.places → Event profile s t → AreListed t.opened t.places
  listed_on s t l (Open i a keys may is) = subst (λ (u : Core). AreListed u.opened u.places) (sym is) (opens s.opened s.places l i (pending a) (open_with a (record { keys = keys; part = restricted keys s.maps; result = None })) may.pends refl)
  listed_on s t l (Draw worker i a j may is) = subst (λ (u : Core). AreListed u.opened u.places) (sym is) (stays s.opened s.places l i (open_with a j) (open_with a (drawn profile a j)) may.stands refl)
  listed_on s t l (Close i a j result may is) = subst (λ (u : Core). AreListed u.opened u.places) (sym is) (shuts s.opened s.places l i (open_with a j) (closed_with a result.answer) may.stands refl)
  listed_on s t l (Return i a j may is) = subst (λ (u : Core). AreListed u.opened u.places) (sym is) (shuts s.opened s.places l i (open_with a j) (pending a) may.stands refl)

  listed_after : (s t : Core) → AreListed s.opened s.places → Events profile s t → AreListed t.opened t.places
  listed_after s t l none = l
  listed_after s t l (more {t = u} event later) = listed_after u t (listed_on s u l event) later

  pub open_listed : (workers : ℕ) (requested : List BurstRequest) (m : Maps) (s : Core) → Events profile (start workers requested m) s → AreListed s.opened s.places
  open_listed workers requested m s events = listed_after (start workers requested m) s (λ k. sym (nothing requested k)) events
    where
      nothing : (requested : List BurstRequest) (k : ℕ) → is_open_at (slice_get (map pending requested) k) ≡ false
      nothing [] k = refl
      nothing (a ∷ later) zero = refl
      nothing (a ∷ later) (suc k) = nothing later k

-- ---- so one that is not drawn is found

record IsFound (test : ℕ → Bool) (l : List ℕ) : Type 0 where
  first : ℕ
  is : find test l ≡ Some first
  passes : test first ≡ true

find_one : (test : ℕ → Bool) (l : List ℕ) (i : ℕ) → list_any (nat_eq i) l ≡ true → test i ≡ true → IsFound test l
find_one test [] i h t = absurd cc
find_one test (x ∷ xs) i h t = by (test x) refl (λ g. find_one test xs i g t)
  where
    as_first : test x ≡ true → IsFound test (x ∷ xs)
    as_first e = record { first = x; is = ap (λ b. cond b (Some x) (find test xs)) e; passes = e }

    as_later : test x ≡ false → IsFound test xs → IsFound test (x ∷ xs)
    as_later e f = record { first = f.first; is = ap (λ b. cond b (Some x) (find test xs)) e ∙ f.is; passes = f.passes }

    by : (b : Bool) → test x ≡ b → (list_any (nat_eq i) xs ≡ true → IsFound test xs) → IsFound test (x ∷ xs)
    by true e f = as_first e
    by false e f = as_later e (f (either (or_cases (nat_eq i x) (list_any (nat_eq i) xs) h) (λ n. absurd (let clash : true ≡ false = sym t ∙ ap test (eqb-true i x n) ∙ e in cc)) (λ g. g)))

-- the job at such a place
record HasJob (o : Option Place) : Type 0 where
  requested : BurstRequest
  job : Job
  is : o ≡ Some (open_with requested job)

job_at : (o : Option Place) → undrawn_at o ≡ true → HasJob o
job_at None h = absurd cc
job_at (Some p) h = by p.standing refl h
  where
    by : (x : Standing) → p.standing ≡ x → is_undrawn x ≡ true → HasJob (Some p)
    by Pending e u = absurd cc
    by (Opened j) e u = record { requested = p.requested; job = j; is = λ k. Some (record { requested = p.requested; standing = e k }) }
    by (Closed reply) e u = absurd cc

open_if : (o : Option Place) → undrawn_at o ≡ true → is_open_at o ≡ true
open_if None h = absurd cc
open_if (Some p) h = by p.standing h
  where
    by : (x : Standing) → is_undrawn x ≡ true → is_open x ≡ true
    by Pending u = absurd cc
    by (Opened j) u = refl
    by (Closed reply) u = absurd cc

pub may_draw : (profile : Profile) (workers : ℕ) (requested : List BurstRequest) (m : Maps) (s : Core) → Events profile (start workers requested m) s → (worker i : ℕ) → worker < length s.lists → undrawn_at (slice_get s.places i) ≡ true → (k : ℕ) × (a : BurstRequest) × (j : Job) × MayDraw s worker k a j
may_draw profile workers requested m s events worker i w h =
    let there : list_any (nat_eq i) s.opened ≡ true = open_listed profile workers requested m s events i ∙ open_if (slice_get s.places i) h in
    let f : IsFound (λ k. undrawn_at (slice_get s.places k)) s.opened = find_one (λ k. undrawn_at (slice_get s.places k)) s.opened i there h in
    let j : HasJob (slice_get s.places f.first) = job_at (slice_get s.places f.first) f.passes in
    (f.first, j.requested, j.job, record { works = w; next = f.is; stands = j.is })
