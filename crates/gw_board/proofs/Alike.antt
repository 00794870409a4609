-- Keys that are listed otherwise meet the same.
use Rattle.std.proofs.lemmas.Grind.{common_steps}
use Rattle.std.proofs.Common.{◌≡◌, ℕ, zero, suc, ◌<◌, Bool, true, false, List, [], ◌∷◌, map, length, take, Option, None, Some, refl, sym, ap, ◌∙◌, arith}
use Rattle.std.specs.Prelude.{◌||◌, slice_get}
use Rattle.gw_base.specs.declared.key.Key.{Key}
use Rattle.gw_table.specs.Maps.{Maps}
use Rattle.gw_foot.specs.Meets.{meets}
use Rattle.gw_foot.proofs.Meetings.{apart_if, apart_only}
use Rattle.gw_board.specs.Boards.{Seen, core_of, meets_here, IsFirstMet}
use Rattle.gw_board.specs.Carried.{BurstRequest, keys_of}
use Rattle.gw_board.specs.Core.{Standing, Pending, Opened, Closed, Place, pending, meets_at, meets_any, MayOpen}
use Rattle.gw_board.specs.Met.{IsFirst}
use Rattle.gw_board.proofs.Outs.{SameKeys, apart_left, apart_right}

both_false : (p q : Bool) → (p ≡ false → q ≡ false) → (q ≡ false → p ≡ false) → p ≡ q
both_false p q f g = grind arith

pub meets_alike : (a b x y : List Key) → SameKeys a x → SameKeys b y → meets a b ≡ meets x y
meets_alike a b x y f g = both_false (meets a b) (meets x y)
    (λ h. apart_only x y (apart_right x b y g (apart_left a x b f (apart_if a b h))))
    (λ h. apart_only a b (apart_right a y b (λ q. sym (g q)) (apart_left x a y (λ q. sym (f q)) (apart_if x y h))))

module _ (k l : List Key) (m : Maps) (same : SameKeys k l) where
  pub at_alike : (a : BurstRequest) (x : Standing) → meets_at k m a x ≡ meets_at l m a x
  at_alike a Pending = meets_alike (keys_of a m) k (keys_of a m) l (λ q. refl) same
  at_alike a (Opened j) = meets_alike j.keys k j.keys l (λ q. refl) same
  at_alike a (Closed reply) = refl

  pub any_alike : (places : List Place) → meets_any k m places ≡ meets_any l m places
  any_alike [] = refl
  any_alike (p ∷ ps) = λ i. at_alike p.requested p.standing i || any_alike ps i

  pub here_alike : (o : Option Place) → meets_here k m o ≡ meets_here l m o
  here_alike None = refl
  here_alike (Some p) = at_alike p.requested p.standing

-- ---- one place more

pub any_more : (k : List Key) (m : Maps) (places : List Place) (i : ℕ) (p : Place) → slice_get places i ≡ Some p → meets_any k m (take i places) ≡ false → meets_at k m p.requested p.standing ≡ false → meets_any k m (take (suc i) places) ≡ false
any_more k m [] i p e f g = absurd cc
any_more k m (q ∷ qs) zero p e f g = let same : q ≡ p = cc in ap (λ (x : Place). meets_at k m x.requested x.standing || false) same ∙ ap (λ b. b || false) g
any_more k m (q ∷ qs) (suc i) p e f g = by (meets_at k m q.requested q.standing) f (λ h. any_more k m qs i p e h g)
  where
    by : (b : Bool) → (b || meets_any k m (take i qs)) ≡ false → (meets_any k m (take i qs) ≡ false → meets_any k m (take (suc i) qs) ≡ false) → (b || meets_any k m (take (suc i) qs)) ≡ false
    by true h t = absurd cc
    by false h t = t h

-- ---- the first that is met

pub take-map : {X Y : Type 0} (f : X → Y) (xs : List X) (i : ℕ) → map f (take i xs) ≡ take i (map f xs)
take-map f xs zero = refl
take-map f [] (suc i) = refl
take-map f (x ∷ xs) (suc i) = ap (λ l. f x ∷ l) (take-map f xs i)

take-take : {X : Type 0} (xs : List X) (i j : ℕ) → j < i → take j (take i xs) ≡ take j xs
take-take xs i j l = grind (arith, common_steps)

pub get-take : {X : Type 0} (xs : List X) (i j : ℕ) → j < i → slice_get (take i xs) j ≡ slice_get xs j
get-take xs zero j l = absurd (omega arith)
get-take [] (suc i) j l = refl
get-take (x ∷ xs) (suc i) zero l = refl
get-take (x ∷ xs) (suc i) (suc j) l = get-take xs i j (omega arith)

pub below-take : {X : Type 0} (xs : List X) (i j : ℕ) → j < length (take i xs) → j < i
below-take xs i j l = grind (arith, common_steps)

module _ (b : Seen) (i : ℕ) (a : BurstRequest) (keys : List Key) (pends : slice_get b.places i ≡ Some (pending a)) (same : SameKeys keys (keys_of a b.maps)) where
  pub none_met : meets_any keys b.maps (take i b.places) ≡ false → MayOpen (core_of b) i a keys
  none_met h = record { pends = pends; listed = same; free = sym (any_alike keys (keys_of a b.maps) b.maps same (take i b.places)) ∙ h }

pub first_met : (b : Seen) (i j : ℕ) (a : BurstRequest) (keys : List Key) → slice_get b.places i ≡ Some (pending a) → SameKeys keys (keys_of a b.maps) → IsFirst keys b.maps (take i b.places) j → IsFirstMet b i j
first_met b i j a keys pends same f =
    let l : j < i = below-take b.places i j f.inside in
    let m : Maps = b.maps in
    record {
      requested = a;
      pends = pends;
      earlier = l;
      met = sym (here_alike keys (keys_of a m) m same (slice_get b.places j)) ∙ ap (meets_here keys m) (sym (get-take b.places i j l)) ∙ f.met;
      first = sym (any_alike keys (keys_of a m) m same (take j b.places)) ∙ ap (meets_any keys m) (sym (take-take b.places i j l)) ∙ f.first;
    }
