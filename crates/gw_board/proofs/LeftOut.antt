-- Which places are in a wave, and what keeps the others out.
use Rattle.std.proofs.Common.{nat_eq, ◌≡◌, ℕ, zero, suc, ◌+◌, ◌<◌, ◌≤◌, Bool, true, false, cond, ◌&&◌, List, [], ◌∷◌, length, take, Some, refl, sym, ap, ◌∙◌, arith, eqb-true}
use Rattle.std.specs.Prelude.{slice_get, filter}
use Rattle.std.specs.List.{list_any, range_with_len}
use Rattle.gw_base.specs.declared.key.Key.{Key}
use Rattle.gw_base.proofs.NamesInLists.{or_cases, or_left, or_right, either}
use Rattle.gw_table.specs.Maps.{Maps}
use Rattle.gw_foot.specs.Meets.{meets}
use Rattle.gw_board.specs.Carried.{BurstRequest, keys_of}
use Rattle.gw_board.specs.Core.{Standing, Pending, Opened, Closed, Place, Core, pending}
use Rattle.gw_board.specs.Waves.{is_pending, meets_pending, wave, IsMet}

-- ---- places

pub below : {X : Type 0} (xs : List X) (i : ℕ) (x : X) → slice_get xs i ≡ Some x → i < length xs
below [] i x e = absurd cc
below (y ∷ ys) zero x e = omega arith
below (y ∷ ys) (suc i) x e = let h : i < length ys = below ys i x e in omega (arith, h)

-- one of the first i
record IsEarlier {X : Type 0} (xs : List X) (i j : ℕ) (x : X) : Type 0 where
  before : j < i
  stands : slice_get xs j ≡ Some x

earlier_one : {X : Type 0} (xs : List X) (i j : ℕ) (x : X) → slice_get (take i xs) j ≡ Some x → IsEarlier xs i j x
earlier_one xs zero j x e = absurd cc
earlier_one [] (suc i) j x e = absurd cc
earlier_one (y ∷ ys) (suc i) zero x e = record { before = omega arith; stands = e }
earlier_one (y ∷ ys) (suc i) (suc j) x e = let h : IsEarlier ys i j x = earlier_one ys i j x e in record { before = omega (arith, h.before); stands = h.stands }

-- ---- a place that is free is in the wave

pub other : (i a : ℕ) → a ≤ i → nat_eq i a ≡ false → a + 1 ≤ i
other i a low e = grind arith

found : (test : ℕ → Bool) (n a i : ℕ) → a ≤ i → i < a + n → test i ≡ true → list_any (nat_eq i) (filter test (range_with_len a n)) ≡ true
found test zero a i low high t = absurd (omega (arith, low, high))
found test (suc n) a i low high t = by (nat_eq i a) refl (test a) refl (λ e. found test n (a + 1) i (other i a low e) (omega (arith, high)) t)
  where
    by : (b : Bool) → nat_eq i a ≡ b → (c : Bool) → test a ≡ c → (nat_eq i a ≡ false → list_any (nat_eq i) (filter test (range_with_len (a + 1) n)) ≡ true)
        → list_any (nat_eq i) (cond c (a ∷ filter test (range_with_len (a + 1) n)) (filter test (range_with_len (a + 1) n))) ≡ true
    by true e true f later = or_left (nat_eq i a) (list_any (nat_eq i) (filter test (range_with_len (a + 1) n))) e
    by true e false f later = absurd (let clash : true ≡ false = sym t ∙ ap test (eqb-true i a e) ∙ f in cc)
    by false e true f later = or_right (nat_eq i a) (list_any (nat_eq i) (filter test (range_with_len (a + 1) n))) (later e)
    by false e false f later = later e

pub free_is_in : (s : Core) (i : ℕ) (a : BurstRequest) → slice_get s.places i ≡ Some (pending a) → meets_pending (keys_of a s.maps) s.maps (take i s.places) ≡ false → list_any (nat_eq i) (wave s) ≡ true
free_is_in s i a e h = grind (arith, found, below)

-- ---- and what is not in it is met

record IsMetAt (keys : List Key) (m : Maps) (places : List Place) : Type 0 where
  place : ℕ
  requested : BurstRequest
  pends : slice_get places place ≡ Some (pending requested)
  met : meets (keys_of requested m) keys ≡ true

met_one : (keys : List Key) (m : Maps) (places : List Place) → meets_pending keys m places ≡ true → IsMetAt keys m places
met_one keys m [] h = absurd cc
met_one keys m (p ∷ ps) h = either (or_cases (is_pending p.standing && meets (keys_of p.requested m) keys) (meets_pending keys m ps) h) (λ i. here p.standing refl i) (λ i. behind (met_one keys m ps i))
  where
    here : (x : Standing) → p.standing ≡ x → (is_pending x && meets (keys_of p.requested m) keys) ≡ true → IsMetAt keys m (p ∷ ps)
    here Pending e i = record { place = 0; requested = p.requested; pends = λ k. Some (record { requested = p.requested; standing = e k }); met = i }
    here (Opened j) e i = absurd cc
    here (Closed reply) e i = absurd cc

    behind : IsMetAt keys m ps → IsMetAt keys m (p ∷ ps)
    behind i = record { place = suc i.place; requested = i.requested; pends = i.pends; met = i.met }

pub left_out : (s : Core) (i : ℕ) (a : BurstRequest) → slice_get s.places i ≡ Some (pending a) → list_any (nat_eq i) (wave s) ≡ false → (j : ℕ) × IsMet s (keys_of a s.maps) i j
left_out s i a e out = by (meets_pending (keys_of a s.maps) s.maps (take i s.places)) refl
  where
    by : (b : Bool) → meets_pending (keys_of a s.maps) s.maps (take i s.places) ≡ b → (j : ℕ) × IsMet s (keys_of a s.maps) i j
    by false h = absurd (let clash : true ≡ false = sym (free_is_in s i a e h) ∙ out in cc)
    by true h =
        let met : IsMetAt (keys_of a s.maps) s.maps (take i s.places) = met_one (keys_of a s.maps) s.maps (take i s.places) h in
        let one : IsEarlier s.places i met.place (pending met.requested) = earlier_one s.places i met.place (pending met.requested) met.pends in
        (met.place, record { earlier = one.before; requested = met.requested; pends = one.stands; met = met.met })

-- the first pending place is in it
pub none_pending : (keys : List Key) (m : Maps) (places : List Place) → list_any (λ p. is_pending p.standing) places ≡ false → meets_pending keys m places ≡ false
none_pending keys m [] h = refl
none_pending keys m (p ∷ ps) h = grind (arith, none_pending keys m ps)

pub first_is_in : (s : Core) (i : ℕ) (a : BurstRequest) → slice_get s.places i ≡ Some (pending a) → list_any (λ p. is_pending p.standing) (take i s.places) ≡ false → list_any (nat_eq i) (wave s) ≡ true
first_is_in s i a e h = free_is_in s i a e (none_pending (keys_of a s.maps) s.maps (take i s.places) h)
