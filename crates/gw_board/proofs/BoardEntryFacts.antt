-- Places as they are kept.
use Rattle.std.proofs.lemmas.Grind.{common_steps}
use Rattle.std.proofs.Common.{◌≡◌, ℕ, zero, suc, ◌<◌, ◌≤◌, Bool, true, false, cond, List, [], ◌∷◌, ◌++◌, map, length, Some, refl, sym, ap, arith, slice_index_or}
use Rattle.std.specs.Prelude.{slice_get, slice_set}
use Rattle.gw_board.specs.Texts.{Text}
use Rattle.gw_board.specs.Boards.{requested_in, is_closed, unclosed}
use Rattle.gw_board.specs.Carried.{BurstRequest}
use Rattle.gw_board.specs.Core.{Standing, Closed, Place, pending}
use Rattle.gw_board.specs.BoardEntries.{standing_of, place_of}
use Rattle.gw_board.specs.declared.board_entry.Stage.{Stage}
use Rattle.gw_board.specs.declared.board_entry.BoardEntry.{BoardEntry}

pub seat_inside : (board_entries : List BoardEntry) (i : ℕ) (p : Place) → slice_get (map place_of board_entries) i ≡ Some p → i < length board_entries
seat_inside [] i p e = absurd cc
seat_inside (s ∷ ss) zero p e = omega arith
seat_inside (s ∷ ss) (suc i) p e = let h : i < length ss = seat_inside ss i p e in omega (arith, h)

pub staged : (board_entries : List BoardEntry) (i : ℕ) (old : BoardEntry) (new : Stage) (p : Place) → i < length board_entries → old ≡ slice_index_or board_entries i old → slice_get (map place_of board_entries) i ≡ Some p
    → map place_of (slice_set board_entries i (record { task = old.task; stage = new })) ≡ slice_set (map place_of board_entries) i (record { requested = p.requested; standing = standing_of new })
staged [] i old new p l f e = absurd (omega arith)
staged (s ∷ ss) zero old new p l f e = grind arith
staged (s ∷ ss) (suc i) old new p l f e = ap (λ (l : List Place). place_of s ∷ l) (staged ss i old new p (omega arith) f e)

-- the requests stay
pub staged_asked : (board_entries : List BoardEntry) (i : ℕ) (old : BoardEntry) (new : Stage) → old ≡ slice_index_or board_entries i old → requested_in (map place_of (slice_set board_entries i (record { task = old.task; stage = new }))) ≡ requested_in (map place_of board_entries)
staged_asked [] i old new f = refl
staged_asked (s ∷ ss) zero old new f = ap (λ (x : BoardEntry). x.task ∷ requested_in (map place_of ss)) f
staged_asked (s ∷ ss) (suc i) old new f = ap (λ (l : List BurstRequest). s.task ∷ l) (staged_asked ss i old new f)

pub seat_place : (board_entries : List BoardEntry) (i : ℕ) (s : BoardEntry) → i < length board_entries → s ≡ slice_index_or board_entries i s → slice_get (map place_of board_entries) i ≡ Some (place_of s)
seat_place [] i s l f = absurd (omega arith)
seat_place (t ∷ ts) zero s l f = ap (λ (x : BoardEntry). Some (place_of x)) (sym f)
seat_place (t ∷ ts) (suc i) s l f = seat_place ts i s (omega arith) f

-- ---- how many are not closed

pub unclosed-pending : (requested : List BurstRequest) → unclosed (map pending requested) ≡ length requested
unclosed-pending [] = refl
unclosed-pending (a ∷ more) = let h : unclosed (map pending more) ≡ length more = unclosed-pending more in omega (arith, h)

pub length-places : (board_entries : List BoardEntry) → length (map place_of board_entries) ≡ length board_entries
length-places board_entries = grind (arith, common_steps)

pub length-pending : (requested : List BurstRequest) → length (map pending requested) ≡ length requested
length-pending requested = grind (arith, common_steps)

module _ (a b : ℕ) where
  either_way : (x : Bool) → a ≡ b → cond x a (suc a) ≡ cond x b (suc b)
  either_way true g = g
  either_way false g = ap suc g

  one_less : (x y : Bool) → x ≡ true → y ≡ false → a ≡ b → suc (cond x a (suc a)) ≡ cond y b (suc b)
  one_less false y e f g = absurd cc
  one_less true true e f g = absurd cc
  one_less true false e f g = ap suc g

  one_less_later : (x : Bool) → suc a ≡ b → suc (cond x a (suc a)) ≡ cond x b (suc b)
  one_less_later true g = g
  one_less_later false g = ap suc g

pub unclosed-stays : (places : List Place) (i : ℕ) (p new : Place) → slice_get places i ≡ Some p → is_closed p.standing ≡ false → is_closed new.standing ≡ false → unclosed (slice_set places i new) ≡ unclosed places
unclosed-stays [] i p new e f g = absurd cc
unclosed-stays (q ∷ qs) zero p new e f g = grind arith
unclosed-stays (q ∷ qs) (suc i) p new e f g = either_way (unclosed (slice_set qs i new)) (unclosed qs) (is_closed q.standing) (unclosed-stays qs i p new e f g)

pub unclosed-less : (places : List Place) (i : ℕ) (p new : Place) → slice_get places i ≡ Some p → is_closed p.standing ≡ false → is_closed new.standing ≡ true → suc (unclosed (slice_set places i new)) ≡ unclosed places
unclosed-less [] i p new e f g = absurd cc
unclosed-less (q ∷ qs) zero p new e f g = grind arith
unclosed-less (q ∷ qs) (suc i) p new e f g = one_less_later (unclosed (slice_set qs i new)) (unclosed qs) (is_closed q.standing) (unclosed-less qs i p new e f g)

-- ---- where all are closed

-- replies so far, and the places that are left
abbrev pub told_as : List Text → List BoardEntry → List Standing
told_as replies board_entries = map Closed replies ++ map (λ p. p.standing) (map place_of board_entries)

pub told_all : (replies : List Text) → told_as replies [] ≡ map Closed replies
told_all replies = grind (arith, common_steps)

pub nil_of : {X : Type 0} (xs : List X) → length xs ≡ 0 → xs ≡ []
nil_of xs e = grind (arith, common_steps)

-- ---- places that are pending again, from the first on

abbrev pub front_pending : ℕ → List Place → List Place
front_pending zero places = places
front_pending (suc n) [] = []
front_pending (suc n) (p ∷ ps) = pending p.requested ∷ front_pending n ps

-- the next one too
pub next_pending : (places : List Place) (n : ℕ) (p : Place) → slice_get (front_pending n places) n ≡ Some p → slice_set (front_pending n places) n (pending p.requested) ≡ front_pending (suc n) places
next_pending [] zero p e = refl
next_pending [] (suc n) p e = refl
next_pending (q ∷ qs) zero p e = let same : q ≡ p = cc in ap (λ (x : Place). pending x.requested ∷ qs) (sym same)
next_pending (q ∷ qs) (suc n) p e = ap (λ (l : List Place). pending q.requested ∷ l) (next_pending qs n p e)

-- or all
pub all_are_pending : (places : List Place) (n : ℕ) → length places ≤ n → front_pending n places ≡ map pending (requested_in places)
all_are_pending [] zero h = refl
all_are_pending [] (suc n) h = refl
all_are_pending (p ∷ ps) zero h = absurd (omega arith)
all_are_pending (p ∷ ps) (suc n) h = ap (λ (l : List Place). pending p.requested ∷ l) (all_are_pending ps n (omega arith))

-- there is a place
pub place_there : (places : List Place) (n : ℕ) → n < length places → (p : Place) × (slice_get places n ≡ Some p)
place_there [] n h = absurd (omega arith)
place_there (p ∷ ps) zero h = (p, refl)
place_there (p ∷ ps) (suc n) h = place_there ps n (omega arith)

pub length-requested : (places : List Place) → length (requested_in places) ≡ length places
length-requested places = grind (arith, common_steps)
