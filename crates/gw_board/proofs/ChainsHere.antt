-- What is pending of the places of a board, from a place on, owns slots that are unused, each another one.
use Rattle.std.proofs.Common.{◌≡◌, ℕ, suc, ◌<◌, Bool, true, false, cond, List, [], ◌∷◌, ◌++◌, None, take, drop, sym, subst, arith}
use Rattle.std.specs.Prelude.{◌≢◌, All, AllPairs}
use Rattle.std.proofs.lemmas.List.{take-append-drop}
use Rattle.std.proofs.lemmas.List.Elements.{All-nil, All-append}
use Rattle.std.proofs.lemmas.List.Kept.{AllPairs-cons}
use Rattle.gw_board.specs.declared.profile.Profile.{Profile}
use Rattle.gw_table.specs.Maps.{Maps, term}
use Rattle.gw_table.specs.Reserved.{slot_name}
use Rattle.gw_table.specs.Stored.{Stored}
use Rattle.gw_table.specs.Unused.{owned, AreUnused}
use Rattle.gw_board.specs.BoardView.{IsOnTheWay}
use Rattle.gw_board.specs.Boards.{Seen}
use Rattle.gw_board.specs.Chains.{requests_of}
use Rattle.gw_board.specs.Core.{Standing, Pending, Opened, Closed, Place}
use Rattle.gw_board.specs.Fitting.{Each, Fits, Stands, Beside, Stand}
use Rattle.gw_board.specs.GoingOn.{MayGoOn}
use Rattle.gw_board.specs.Results.{slots_of}
use Rattle.gw_board.specs.Stretches.{chained}
use Rattle.gw_board.specs.Waves.{is_pending}
use Rattle.gw_board.proofs.CarriedAlone.{whole_there}
use Rattle.gw_board.proofs.Orders.{behind_in}

-- ---- slots

-- none of these is one of the others
abbrev AreOthers : List ℕ → List ℕ → Type 0
AreOthers front later = All (λ t. All (λ s. s ≢ t) front) later

pairs_joined : (front later : List ℕ) → AllPairs (λ a b. a ≢ b) front → AllPairs (λ a b. a ≢ b) later → AreOthers front later → AllPairs (λ a b. a ≢ b) (front ++ later)
pairs_joined [] later f l h = l
pairs_joined (x ∷ xs) later f l h =
    AllPairs-cons (λ a b. a ≢ b) x (xs ++ later)
    (All-append (λ b. x ≢ b) xs later (λ k d e. f 0 (suc k) d (omega arith) (omega (arith, e))) (λ k d e. h k d e 0 d (omega arith)))
    (pairs_joined xs later (λ i j d a b. f (suc i) (suc j) d (omega (arith, a)) (omega (arith, b))) l (λ k d e i c j. h k d e (suc i) c (omega (arith, j))))

unused_joined : (m : Maps) (front later : List ℕ) → AreUnused m [] front → AreUnused m [] later → AreOthers front later → AreUnused m [] (front ++ later)
unused_joined m front later u v h = record {
  numbers_apart = u.numbers_apart;
  no_contexts = u.no_contexts;
  slots_apart = pairs_joined front later u.slots_apart v.slots_apart h;
  no_terminations = All-append (λ s. term m (slot_name s) ≡ None) front later u.no_terminations v.no_terminations;
  slots_small = All-append (λ s. s < 4096) front later u.slots_small v.slots_small;
}

nothing_unused : (m : Maps) → AreUnused m [] []
nothing_unused m = record {
  numbers_apart = λ i j d a b. absurd (omega (arith, b));
  no_contexts = λ k d h. absurd (omega (arith, h));
  slots_apart = λ i j d a b. absurd (omega (arith, b));
  no_terminations = λ k d h. absurd (omega (arith, h));
  slots_small = λ k d h. absurd (omega (arith, h));
}

-- ---- places

-- what is pending of these places, in their chains, owns these slots
abbrev slots_in : List ℕ → List Place → List ℕ
slots_in numbers places = slots_of (requests_of (chained numbers places))

others_behind : (m : Maps) (p : Place) (numbers : List ℕ) (places : List Place) → Each (Beside m p) places → AreOthers (owned p.requested.owned.slots) (slots_in numbers places)
others_behind m p [] places h = All-nil (λ t. All (λ s. s ≢ t) (owned p.requested.owned.slots))
others_behind m p (g ∷ numbers) [] h = All-nil (λ t. All (λ s. s ≢ t) (owned p.requested.owned.slots))
others_behind m p (g ∷ numbers) (q ∷ qs) h = by (is_pending q.standing) (others_behind m p numbers qs h.1)
  where
    by : (b : Bool) → AreOthers (owned p.requested.owned.slots) (slots_in numbers qs)
        → AreOthers (owned p.requested.owned.slots) (slots_of (requests_of (cond b (record { chain = g; requested = q.requested } ∷ chained numbers qs) (chained numbers qs))))
    by true l = All-append (λ t. All (λ s. s ≢ t) (owned p.requested.owned.slots)) (owned q.requested.owned.slots) (slots_in numbers qs) h.0.differ l
    by false l = l

pending_unused : (profile : Profile) (m : Maps) (numbers : List ℕ) (places : List Place) → Stand profile m places → AreUnused m [] (slots_in numbers places)
pending_unused profile m [] places h = nothing_unused m
pending_unused profile m (g ∷ numbers) [] h = nothing_unused m
pending_unused profile m (g ∷ numbers) (p ∷ ps) h = by p.standing h.0 (pending_unused profile m numbers ps h.2)
  where
    by : (x : Standing) → Fits profile p.requested m x → AreUnused m [] (slots_in numbers ps)
        → AreUnused m [] (slots_of (requests_of (cond (is_pending x) (record { chain = g; requested = p.requested } ∷ chained numbers ps) (chained numbers ps))))
    by Pending f l = unused_joined m (owned p.requested.owned.slots) (slots_in numbers ps) f l (others_behind m p numbers ps h.1)
    by (Opened j) f l = l
    by (Closed reply) f l = l

pub unused_range : (profile : Profile) (start : Stored) (maps : Maps) (places : List Place) → MayGoOn profile start maps places → (numbers : List ℕ) (n : ℕ) → AreUnused maps [] (slots_of (requests_of (chained numbers (drop n places))))
unused_range profile start maps places g numbers n =
    let b : Seen = record { profile = profile; start = start; maps = maps; places = places; undo_log = g.undo_log } in
    let w : IsOnTheWay b = g.way in
    subst (λ (m : Maps). AreUnused m [] (slots_in numbers (drop n places))) (sym (whole_there b w g.none))
    (pending_unused profile w.fits.whole numbers (drop n places)
    (behind_in (Stands profile w.fits.whole) (Beside w.fits.whole) (take n places) (drop n places)
    (subst (Stand profile w.fits.whole) (sym (take-append-drop n places)) w.fits.stand)))
