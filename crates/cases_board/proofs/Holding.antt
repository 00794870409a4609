-- What is open on a board is kept at its place, whatever is opened and closed.
use Rattle.std.proofs.Common.{nat_eq, ◌≡◌, ℕ, zero, suc, ◌<◌, ◌≤◌, Bool, true, false, not, List, [], ◌∷◌, map, length, Option, None, Some, is_some, is_none, refl, sym, ap, subst, ◌∙◌, arith, eqb-true, eq-eqb}
use Rattle.std.specs.Prelude.{◌||◌, slice_get, slice_set}
use Rattle.std.specs.List.{list_any, list_all}
use Rattle.std.proofs.lemmas.List.{length-set}
use Rattle.std.proofs.lemmas.Option.{slice_get_within}
use Rattle.gw_base.proofs.Booleans.{both as each_of}
use Rattle.gw_board.specs.Boards.{Seen, Handed, HasOpen, Opens, core_of, requested_in, job_of, outcome_of, begun_board, with_result, unchanged, is_closed, AllClosed, IsSameBurst, reply_of, reply_at}
use Rattle.gw_board.specs.Core.{Standing, Pending, Opened, Closed, Place, pending, open_with, closed_with}
use Rattle.gw_board.specs.Results.{is_open, is_open_at, NothingIsOpen}
use Rattle.gw_board.specs.declared.requested.BurstRequest.{BurstRequest}
use Rattle.gw_board.specs.declared.profile.Profile.{Profile}
use Rattle.gw_board.proofs.BoardEntryFacts.{length-pending}
use Rattle.gw_board.proofs.OnTheWay.{requested-set}
use Rattle.gw_table.specs.Stored.{Stored}
use Rattle.cases_board.specs.Held.{IsHeld, AreHeld, job_in}

-- ---- entries that are set

module _ {X : Type 0} where
  set_here : (xs : List X) (i : ℕ) (x y : X) → slice_get xs i ≡ Some x → slice_get (slice_set xs i y) i ≡ Some y
  set_here [] i x y e = absurd cc
  set_here (z ∷ zs) zero x y e = refl
  set_here (z ∷ zs) (suc i) x y e = set_here zs i x y e

  set_other : (xs : List X) (i j : ℕ) (y : X) → (j ≡ i → ⊥) → slice_get (slice_set xs i y) j ≡ slice_get xs j
  set_other [] i j y e = refl
  set_other (z ∷ zs) zero zero y e = absurd (e refl)
  set_other (z ∷ zs) zero (suc j) y e = refl
  set_other (z ∷ zs) (suc i) zero y e = refl
  set_other (z ∷ zs) (suc i) (suc j) y e = set_other zs i j y (λ s. e (ap suc s))

  set_elsewhere : (xs : List X) (i j : ℕ) (y : X) → nat_eq j i ≡ false → slice_get (slice_set xs i y) j ≡ slice_get xs j
  set_elsewhere xs i j y e = set_other xs i j y (λ s. let clash : true ≡ false = sym (eq-eqb j i s) ∙ e in cc)

  -- what stands there is what was set, or the list ends before
  set_at : (P : Option X → Type 0) (xs : List X) (i : ℕ) (y : X) → P (Some y) → (length xs ≤ i → P None) → P (slice_get (slice_set xs i y) i)
  set_at P [] i y p q = q (omega arith)
  set_at P (z ∷ zs) zero y p q = p
  set_at P (z ∷ zs) (suc i) y p q = set_at P zs i y p (λ h. q (omega arith))

  pub set_past : (xs : List X) (i : ℕ) (y : X) → length xs ≤ i → slice_set xs i y ≡ xs
  set_past [] i y h = refl
  set_past (z ∷ zs) zero y h = absurd (omega arith)
  set_past (z ∷ zs) (suc i) y h = ap (λ (l : List X). z ∷ l) (set_past zs i y (omega arith))

-- ---- a board on which one place stands otherwise

module _ (b c : Seen) (held : List (Option Handed)) (a : AreHeld b held) (i : ℕ) (x : Option Handed) (profile : c.profile ≡ b.profile) (count : length c.places ≡ length b.places) (elsewhere : (j : ℕ) → nat_eq j i ≡ false → slice_get c.places j ≡ slice_get b.places j) (here : IsHeld c i (Some x)) (past : length held ≤ i → IsHeld c i None) where
  still : (j : ℕ) → nat_eq j i ≡ false → (o : Option (Option Handed)) → IsHeld b j o → IsHeld c j o
  still j e None h = ap is_open_at (elsewhere j e) ∙ h
  still j e (Some None) h = ap is_open_at (elsewhere j e) ∙ h
  still j e (Some (Some g)) h = (
    h.0,
    record {
      profile = h.1.profile ∙ sym profile;
      stands = ap (slice_get c.places) h.0 ∙ elsewhere j e ∙ ap (slice_get b.places) (sym h.0) ∙ h.1.stands;
    },
  )

  moved : AreHeld c (slice_set held i x)
  moved = record { count = length-set held i x ∙ a.count ∙ sym count; each = λ j. by j (nat_eq j i) refl }
    where
      by : (j : ℕ) (t : Bool) → nat_eq j i ≡ t → IsHeld c j (slice_get (slice_set held i x) j)
      by j true e = subst (λ (k : ℕ). IsHeld c k (slice_get (slice_set held i x) k)) (sym (eqb-true j i e)) (set_at (IsHeld c i) held i x here past)
      by j false e = subst (λ (o : Option (Option Handed)). IsHeld c j o) (sym (set_elsewhere held i j x e)) (still j e (slice_get held j) (a.each j))

-- ---- a place is opened

module _ (b c : Seen) (i : ℕ) (h : Handed) (o : Opens b i h c) (held : List (Option Handed)) (a : AreHeld b held) where
  places_are : c.places ≡ slice_set b.places i (open_with h.requested (job_of h))
  places_are =
      ap (λ (x : Seen). x.places) o.board
      ∙ ap (λ (x : Handed). slice_set b.places i (open_with h.requested (record { keys = h.keys; part = x.part; result = None }))) (sym o.job)

  place_is : h.place ≡ i
  place_is = ap (λ (x : Handed). x.place) o.job

  manner_is : c.profile ≡ b.profile
  manner_is = ap (λ (x : Seen). x.profile) o.board

  pub opened_inside : i < length held
  opened_inside =
      let inside : i < length b.places = slice_get_within b.places i (pending h.requested) o.may.pends in
      let count = a.count in
      omega arith

  now_open : HasOpen c h
  now_open = record {
    profile = ap (λ (x : Handed). x.profile) o.job ∙ sym manner_is;
    stands = ap (slice_get c.places) place_is ∙ ap (λ (l : List Place). slice_get l i) places_are ∙ set_here b.places i (pending h.requested) (open_with h.requested (job_of h)) o.may.pends;
  }

  pub held_opened : AreHeld c (slice_set held i (Some h))
  held_opened =
      moved b c held a i (Some h) manner_is
      (ap length places_are ∙ length-set b.places i (open_with h.requested (job_of h)))
      (λ j e. ap (λ (l : List Place). slice_get l j) places_are ∙ set_elsewhere b.places i j (open_with h.requested (job_of h)) e)
      (place_is, now_open)
      (λ l. absurd (let inside : i < length held = opened_inside in omega arith))

  pub same_opened : IsSameBurst b c
  same_opened = record {
    profile = manner_is;
    start = ap (λ (x : Seen). x.start) o.board;
    requested = ap requested_in places_are ∙ requested-set b.places i (pending h.requested) (open_with h.requested (job_of h)) o.may.pends refl;
  }

-- ---- a job is taken away

-- nothing is open where no job is kept
shut : (b : Seen) (i : ℕ) (o : Option (Option Handed)) → job_in o ≡ None → IsHeld b i o → is_open_at (slice_get b.places i) ≡ false
shut b i None e h = h
shut b i (Some None) e h = h
shut b i (Some (Some g)) e h = absurd cc

-- what was kept there is open
pub taken_open : (b : Seen) (i : ℕ) (h : Handed) (o : Option (Option Handed)) → job_in o ≡ Some h → IsHeld b i o → (h.place ≡ i) × HasOpen b h
taken_open b i h None e k = absurd cc
taken_open b i h (Some None) e k = absurd cc
taken_open b i h (Some (Some g)) e k = subst (λ (x : Handed). (x.place ≡ i) × HasOpen b x) (some_is e) k
  where
    some_is : job_in (Some (Some g)) ≡ Some h → g ≡ h
    some_is f = cc

-- and is closed, either way
module _ (b c : Seen) (i : ℕ) (h : Handed) (held : List (Option Handed)) (a : AreHeld b held) (e : job_in (slice_get held i) ≡ Some h) where
  kept : (h.place ≡ i) × HasOpen b h
  kept = taken_open b i h (slice_get held i) e (a.each i)

  closed_as : (new : Place) → c.profile ≡ b.profile → c.places ≡ slice_set b.places h.place new → is_open new.standing ≡ false → AreHeld c (slice_set held i None)
  closed_as new profile places off =
      let here : c.places ≡ slice_set b.places i new = places ∙ ap (λ (n : ℕ). slice_set b.places n new) kept.0 in
      let stands : slice_get b.places i ≡ Some (open_with h.requested (job_of h)) = ap (slice_get b.places) (sym kept.0) ∙ kept.1.stands in
      let none : is_open_at (slice_get c.places i) ≡ false =
      ap (λ (l : List Place). is_open_at (slice_get l i)) here
      ∙ ap is_open_at (set_here b.places i (open_with h.requested (job_of h)) new stands) ∙ off in
      moved b c held a i None profile
      (ap length here ∙ length-set b.places i new)
      (λ j k. ap (λ (l : List Place). slice_get l j) here ∙ set_elsewhere b.places i j new k)
      none (λ l. none)

  pub held_closed : c ≡ with_result b h → AreHeld c (slice_set held i None)
  held_closed is = closed_as (closed_with h.requested (outcome_of h).answer) (ap (λ (x : Seen). x.profile) is) (ap (λ (x : Seen). x.places) is) refl

  pub held_returned : c ≡ unchanged b h → AreHeld c (slice_set held i None)
  held_returned is = closed_as (pending h.requested) (ap (λ (x : Seen). x.profile) is) (ap (λ (x : Seen). x.places) is) refl

  pub same_closed : c ≡ with_result b h → IsSameBurst b c
  same_closed is = record {
    profile = ap (λ (x : Seen). x.profile) is;
    start = ap (λ (x : Seen). x.start) is;
    requested = ap (λ (x : Seen). requested_in x.places) is ∙ requested-set b.places h.place (open_with h.requested (job_of h)) (closed_with h.requested (outcome_of h).answer) kept.1.stands refl;
  }

  pub same_returned : c ≡ unchanged b h → IsSameBurst b c
  same_returned is = record {
    profile = ap (λ (x : Seen). x.profile) is;
    start = ap (λ (x : Seen). x.start) is;
    requested = ap (λ (x : Seen). requested_in x.places) is ∙ requested-set b.places h.place (open_with h.requested (job_of h)) (pending h.requested) kept.1.stands refl;
  }

-- ---- the same burst

pub same_itself : (b : Seen) → IsSameBurst b b
same_itself b = record { profile = refl; start = refl; requested = refl }

pub same_still : (b c d : Seen) → IsSameBurst b c → IsSameBurst c d → IsSameBurst b d
same_still b c d s t = record { profile = t.profile ∙ s.profile; start = t.start ∙ s.start; requested = t.requested ∙ s.requested }

-- ---- no job is kept

none_at : (held : List (Option Handed)) (i : ℕ) → list_all is_none held ≡ true → job_in (slice_get held i) ≡ None
none_at [] i h = refl
none_at (x ∷ xs) zero h = by x (each_of (is_none x) (list_all is_none xs) h).0
  where
    by : (o : Option Handed) → is_none o ≡ true → o ≡ None
    by None e = refl
    by (Some g) e = absurd cc
none_at (x ∷ xs) (suc i) h = none_at xs i (each_of (is_none x) (list_all is_none xs) h).1

each_shut : (places : List Place) → ((i : ℕ) → is_open_at (slice_get places i) ≡ false) → list_any (λ p. is_open p.standing) places ≡ false
each_shut [] f = refl
each_shut (p ∷ ps) f = by (is_open p.standing) (f 0) (each_shut ps (λ i. f (suc i)))
  where
    by : (x : Bool) → x ≡ false → list_any (λ q. is_open q.standing) ps ≡ false → (x || list_any (λ q. is_open q.standing) ps) ≡ false
    by true e later = absurd cc
    by false e later = later

pub nothing_open : (b : Seen) (held : List (Option Handed)) → AreHeld b held → list_all is_none held ≡ true → NothingIsOpen (core_of b)
nothing_open b held a h = each_shut b.places (λ i. shut b i (slice_get held i) (none_at held i h) (a.each i))

-- ---- at the start

pending_shut : (requested : List BurstRequest) (i : ℕ) → is_open_at (slice_get (map pending requested) i) ≡ false
pending_shut [] i = refl
pending_shut (x ∷ xs) zero = refl
pending_shut (x ∷ xs) (suc i) = pending_shut xs i

pub held_begun : (profile : Profile) (requested : List BurstRequest) (s : Stored) (b : Seen) (held : List (Option Handed)) → b ≡ begun_board profile requested s → list_all is_none held ≡ true → length held ≡ length requested → AreHeld b held
held_begun profile requested s b held is none count =
    record {
      count = count ∙ sym (length-pending requested) ∙ sym (ap (λ (x : Seen). length x.places) is);
      each = λ i. at i (slice_get held i) (none_at held i none) (ap (λ (x : Seen). is_open_at (slice_get x.places i)) is ∙ pending_shut requested i);
    }
  where
    at : (i : ℕ) (o : Option (Option Handed)) → job_in o ≡ None → is_open_at (slice_get b.places i) ≡ false → IsHeld b i o
    at i None e h = h
    at i (Some None) e h = h
    at i (Some (Some g)) e h = absurd cc

-- ---- at the end

pub all_closed : (places : List Place) → ((k : ℕ) → k < length places → is_some (reply_at (slice_get places k)) ≡ true) → AllClosed places
all_closed [] f = refl
all_closed (p ∷ ps) f = by p.standing (f 0 (omega arith)) (all_closed ps (λ k h. f (suc k) (omega arith)))
  where
    by : (x : Standing) → is_some (reply_of x) ≡ true → AllClosed ps → (not (is_closed x) || list_any (λ q. not (is_closed q.standing)) ps) ≡ false
    by Pending e later = absurd cc
    by (Opened j) e later = absurd cc
    by (Closed reply) e later = later
