-- The places of a wave are opened one after another.
use Rattle.std.proofs.Common.{◌≡◌, ℕ, ◌+◌, Bool, true, false, cond, ◌&&◌, not, List, [], ◌∷◌, ◌++◌, length, take, Option, None, Some, is_some, refl, sym, ap, subst, ◌∙◌, arith, append-nil}
use Rattle.std.specs.Prelude.{◌||◌, slice_get, slice_set, filter}
use Rattle.std.specs.List.{list_any, range_with_len}
use Rattle.std.proofs.Math.Seq.{take-append_seam}
use Rattle.std.proofs.lemmas.List.{length-append}
use Rattle.gw_base.specs.declared.ids.CtxNum.{CtxNum}
use Rattle.gw_base.specs.declared.key.Key.{Key}
use Rattle.gw_base.specs.declared.key.Key.TheVariants.{Whole}
use Rattle.gw_base.specs.Keys.{has, Among, AreApart}
use Rattle.gw_base.proofs.Booleans.{neither}
use Rattle.gw_base.proofs.KeyTests.{apart_turned}
use Rattle.gw_table.specs.Maps.{Maps, place_of, members_of}
use Rattle.gw_table.specs.Parts.{restricted, cut, Only, IsPart}
use Rattle.gw_table.proofs.PartLookups.{term-cut, ctx-cut}
use Rattle.gw_reserve.specs.Owned.{paired}
use Rattle.gw_foot.specs.Meets.{meets}
use Rattle.gw_foot.proofs.AfterAnother.{footprint_same, held_after}
use Rattle.gw_foot.proofs.Meetings.{apart_if, apart_only}
use Rattle.gw_foot.proofs.WholeKeys.{whole_part}
use Rattle.gw_table.proofs.Growth.{Grows}
use Rattle.gw_base.specs.NameLists.{is_in}
use Rattle.gw_term.specs.declared.record.Termination.{Termination}
use Rattle.gw_ctx.specs.Contexts.{ContextRecord}
use Rattle.gw_board.specs.Carried.{BurstRequest, keys_of}
use Rattle.gw_board.specs.Core.{Standing, Pending, Opened, Closed, Place, Core, pending, open_with, meets_at, meets_any, MayOpen, after_open}
use Rattle.gw_board.specs.Results.{is_open, NothingIsOpen}
use Rattle.gw_board.specs.Waves.{is_pending, meets_pending, is_free, wave, MayOpenAll}
use Rattle.gw_board.proofs.Outs.{SameKeys, apart_left, out-append, out-place, ApartAt, ApartFromOpen, clear_out, agree_clear, agree_turned, cut_more, cut_none, cut_alike}
use Rattle.gw_board.proofs.Slices.{item_at, item_set, one_more}
use Rattle.gw_board.specs.Fitting.{Each, out_at, out}

-- ---- while entries are out no key is told that would not be otherwise

none_new : {X : Type 0} (b : Bool) (o : Option X) → is_some (cond b None o) ≡ true → is_some o ≡ true
none_new b o h = grind arith

part_of_cut : (keys o : List Key) (m : Maps) → IsPart (Only keys) m → IsPart (Only keys) (cut o m)
part_of_cut keys o m p = grind (arith, none_new, term-cut, ctx-cut)

old_place : (b : Bool) (o : Option Termination) (c : CtxNum) → place_of (cond b None o) ≡ Some c → place_of o ≡ Some c
old_place b o c e = grind arith

old_member : (b : Bool) (o : Option ContextRecord) (t : List ℕ) → is_in t (members_of (cond b None o)) ≡ true → is_in t (members_of o) ≡ true
old_member b o t h = grind arith

grows_cut : (keys o : List Key) (m : Maps) → Grows (Only keys) m (cut o m)
grows_cut keys o m = grind (arith, old_place, term-cut, old_member, ctx-cut)

pub keys_fewer : (a : BurstRequest) (o : List Key) (m : Maps) → Among (keys_of a (cut o m)) (keys_of a m)
keys_fewer a o m =
    let owners = paired a.request a.owned in
    held_after (keys_of a m) owners m (cut o m) (λ k h. h) (λ h. part_of_cut (keys_of a m) o m (whole_part owners m h)) (grows_cut (keys_of a m) o m)

fewer_apart : (a b keys : List Key) → Among a b → AreApart b keys → AreApart a keys
fewer_apart a b keys f h = record { keys = λ k i. h.keys k (f k i); whole_a = none (has a Whole) (λ i. f Whole i) h.whole_a; whole_b = h.whole_b }
  where
    none : {c : Bool} (x : Bool) → (x ≡ true → c ≡ true) → c ≡ false → x ≡ false
    none true g e = let clash : true ≡ false = sym (g refl) ∙ e in cc
    none false g e = refl

-- ---- places of a wave that are open, and others as they were

-- in the maps with nothing out: a pending place is pending still, or open with the keys that its request has there
abbrev IsAs : Maps → BurstRequest → Standing → Standing → Type 0
IsAs m a Pending Pending = Unit {0}
IsAs m a Pending (Opened j) = SameKeys j.keys (keys_of a m)
IsAs m a Pending (Closed reply) = ⊥
IsAs m a (Opened k) y = ⊥
IsAs m a (Closed r) Pending = ⊥
IsAs m a (Closed r) (Opened j) = ⊥
IsAs m a (Closed r) (Closed reply) = Unit {0}

record Follows (m : Maps) (p q : Place) : Type 0 where
  same : q.requested ≡ p.requested
  stands : IsAs m p.requested p.standing q.standing

abbrev Follow : Maps → List Place → List Place → Type 0
Follow m [] [] = Unit {0}
Follow m [] (q ∷ qs) = ⊥
Follow m (p ∷ ps) [] = ⊥
Follow m (p ∷ ps) (q ∷ qs) = Follows m p q × Follow m ps qs

module _ (m : Maps) (a : BurstRequest) where
  abbrev mine : List Key
  mine = keys_of a m

  apart_at : (b : BurstRequest) (x y : Standing) → IsAs m b x y → (is_pending x && meets (keys_of b m) mine) ≡ false → ApartAt mine y
  apart_at b Pending Pending i h = tt
  apart_at b Pending (Opened j) i h = apart_turned j.keys mine (apart_left (keys_of b m) j.keys mine (λ q. sym (i q)) (apart_if (keys_of b m) mine h))
  apart_at b Pending (Closed reply) i h = tt
  apart_at b (Opened k) y i h = absurd i
  apart_at b (Closed r) Pending i h = tt
  apart_at b (Closed r) (Opened j) i h = absurd i
  apart_at b (Closed r) (Closed reply) i h = tt

  apart_all : (ps qs : List Place) → Follow m ps qs → meets_pending mine m ps ≡ false → Each (ApartFromOpen mine) qs
  apart_all [] [] f h = tt
  apart_all [] (q ∷ qs) f h = absurd f
  apart_all (p ∷ ps) [] f h = absurd f
  apart_all (p ∷ ps) (q ∷ qs) f h =
      let both = neither (is_pending p.standing && meets (keys_of p.requested m) mine) (meets_pending mine m ps) h in
      (apart_at p.requested p.standing q.standing f.0.stands both.0, apart_all ps qs f.1 both.1)

  -- they are not met while others are out
  meets_not_at : (o : List Key) (b c : BurstRequest) (x y : Standing) → c ≡ b → IsAs m b x y → (is_pending x && meets (keys_of b m) mine) ≡ false → meets_at mine (cut o m) c y ≡ false
  meets_not_at o b c Pending Pending e i h = apart_only (keys_of c (cut o m)) mine (fewer_apart (keys_of c (cut o m)) (keys_of b m) mine
      (subst (λ (d : BurstRequest). Among (keys_of c (cut o m)) (keys_of d m)) e (keys_fewer c o m)) (apart_if (keys_of b m) mine h))
  meets_not_at o b c Pending (Opened j) e i h = apart_only j.keys mine (apart_left (keys_of b m) j.keys mine (λ q. sym (i q)) (apart_if (keys_of b m) mine h))
  meets_not_at o b c Pending (Closed reply) e i h = refl
  meets_not_at o b c (Opened k) y e i h = absurd i
  meets_not_at o b c (Closed r) Pending e i h = absurd i
  meets_not_at o b c (Closed r) (Opened j) e i h = absurd i
  meets_not_at o b c (Closed r) (Closed reply) e i h = refl

  meets_none : (o : List Key) (ps qs : List Place) → Follow m ps qs → meets_pending mine m ps ≡ false → meets_any mine (cut o m) qs ≡ false
  meets_none o [] [] f h = refl
  meets_none o [] (q ∷ qs) f h = absurd f
  meets_none o (p ∷ ps) [] f h = absurd f
  meets_none o (p ∷ ps) (q ∷ qs) f h =
      let both = neither (is_pending p.standing && meets (keys_of p.requested m) mine) (meets_pending mine m ps) h in
      ap (λ b. b || meets_any mine (cut o m) qs) (meets_not_at o p.requested q.requested p.standing q.standing f.0.same f.0.stands both.0)
      ∙ meets_none o ps qs f.1 both.1

  same_keys : (ps qs : List Place) → Follow m ps qs → meets_pending mine m ps ≡ false → keys_of a (cut (out qs) m) ≡ mine
  same_keys ps qs f h =
      footprint_same (paired a.request a.owned) m (cut (out qs) m) (agree_turned mine (cut (out qs) m) m (agree_clear mine (out qs) m (clear_out mine qs (apart_all ps qs f h))))

-- ---- one after another

follow_more : (m : Maps) (ps qs : List Place) (p q : Place) → Follow m ps qs → Follows m p q → Follow m (ps ++ p ∷ []) (qs ++ q ∷ [])
follow_more m [] [] p q f g = (g, tt)
follow_more m [] (y ∷ ys) p q f g = absurd f
follow_more m (x ∷ xs) [] p q f g = absurd f
follow_more m (x ∷ xs) (y ∷ ys) p q f g = (f.0, follow_more m xs ys p q f.1 g)

module _ (s : Core) where
  abbrev m : Maps
  m = s.maps

  abbrev those : ℕ → ℕ → List ℕ
  those i n = filter (λ k. is_free m (take k s.places) (slice_get s.places k)) (range_with_len i n)

  -- where the places before this one are as they were, or are open
  record Reaches (t : Core) (i : ℕ) (earlier front rest : List Place) : Type 0 where
    count : length earlier ≡ i
    count_front : length front ≡ i
    places : s.places ≡ earlier ++ rest
    places_now : t.places ≡ front ++ rest
    follow : Follow m earlier front
    maps : t.maps ≡ cut (out front) m

  still : (p : Place) → is_open p.standing ≡ false → Follows m p p
  still p h = record { same = refl; stands = by p.standing h }
    where
      by : (x : Standing) → is_open x ≡ false → IsAs m p.requested x x
      by Pending e = tt
      by (Opened j) e = absurd cc
      by (Closed reply) e = tt

  nothing_at : (p : Place) → is_open p.standing ≡ false → (q : Key) → has (out (p ∷ [])) q ≡ false
  nothing_at p h = by p.standing h
    where
      by : (x : Standing) → is_open x ≡ false → (q : Key) → has (out_at x ++ []) q ≡ false
      by Pending e q = refl
      by (Opened j) e q = absurd cc
      by (Closed reply) e q = refl

  or_none : (b c : Bool) → c ≡ false → (b || c) ≡ b
  or_none true c e = refl
  or_none false c e = e

  -- past a place that stays as it is
  past : (t : Core) (i : ℕ) (earlier front rest : List Place) (p : Place) → is_open p.standing ≡ false → Reaches t i earlier front (p ∷ rest) → Reaches t (i + 1) (earlier ++ p ∷ []) (front ++ p ∷ []) rest
  past t i earlier front rest p h r = record {
    count = omega (arith, length-append earlier (p ∷ []), r.count);
    count_front = omega (arith, length-append front (p ∷ []), r.count_front);
    places = r.places ∙ one_more earlier rest p;
    places_now = r.places_now ∙ one_more front rest p;
    follow = follow_more m earlier front p p r.follow (still p h);
    maps = r.maps ∙ cut_alike (out front) (out (front ++ p ∷ [])) m (λ q. out-append front (p ∷ []) q ∙ or_none (has (out front) q) (has (out (p ∷ [])) q) (nothing_at p h q));
  }

  module _ (t : Core) (i : ℕ) (earlier front rest : List Place) (a : BurstRequest) (r : Reaches t i earlier front (pending a ∷ rest)) (free : meets_pending (keys_of a m) m earlier ≡ false) where
    now : keys_of a t.maps ≡ keys_of a m
    now = ap (keys_of a) r.maps ∙ same_keys m a earlier front r.follow free

    front_is : take i t.places ≡ front
    front_is = (λ k. take (sym r.count_front k) (r.places_now k)) ∙ take-append_seam front (pending a ∷ rest)

    may_open : (keys : List Key) → SameKeys keys (keys_of a t.maps) → MayOpen t i a keys
    may_open keys l = record {
      listed = l;
      pends = (λ k. slice_get (r.places_now k) (sym r.count_front k)) ∙ item_at front rest (pending a);
      free = (λ k. meets_any (now k) (r.maps k) (front_is k)) ∙ meets_none m a (out front) earlier front r.follow free;
    }

    abbrev new : List Key → Place
    new keys = open_with a (record { keys = keys; part = restricted keys t.maps; result = None })

    reaches_open : (keys : List Key) → SameKeys keys (keys_of a t.maps) → Reaches (after_open t i a keys) (i + 1) (earlier ++ pending a ∷ []) (front ++ new keys ∷ []) rest
    reaches_open keys l = record {
      count = omega (arith, length-append earlier (pending a ∷ []), r.count);
      count_front = omega (arith, length-append front (new keys ∷ []), r.count_front);
      places = r.places ∙ one_more earlier rest (pending a);
      places_now = (λ k. slice_set (r.places_now k) (sym r.count_front k) (new keys)) ∙ item_set front rest (pending a) (new keys) ∙ one_more front rest (new keys);
      follow = follow_more m earlier front (pending a) (new keys) r.follow (record { same = refl; stands = λ q. l q ∙ ap (λ (x : List Key). has x q) now });
      maps = ap (cut keys) r.maps ∙ cut_more keys (out front) (out (front ++ new keys ∷ [])) m
          (λ q. out-place front [] (new keys) q ∙ ap (λ b. has keys q || b) (ap (λ l. has (out l) q) (append-nil front)));
    }

  by_place : (t : Core) (i : ℕ) (earlier front rest : List Place) (p : Place) (later : List ℕ) → is_open p.standing ≡ false → Reaches t i earlier front (p ∷ rest)
      → ((u : Core) (fs : List Place) → Reaches u (i + 1) (earlier ++ p ∷ []) fs rest → MayOpenAll u later)
      → (x : Standing) → p.standing ≡ x → (b : Bool) → meets_pending (keys_of p.requested m) m earlier ≡ b → MayOpenAll t (cond (is_pending x && not b) (i ∷ later) later)
  by_place t i earlier front rest p later h r ih Pending e false f =
      let is : p ≡ pending p.requested = (λ k. record { requested = p.requested; standing = e k }) in
      let q : Reaches t i earlier front (pending p.requested ∷ rest) = subst (λ y. Reaches t i earlier front (y ∷ rest)) is r in (
        p.requested,
        λ keys l.
            let n : Place = new t i earlier front rest p.requested q f keys in (
              may_open t i earlier front rest p.requested q f keys l,
              ih (after_open t i p.requested keys) (front ++ n ∷ [])
                  (subst (λ y. Reaches (after_open t i p.requested keys) (i + 1) (earlier ++ y ∷ []) (front ++ n ∷ []) rest) (sym is) (reaches_open t i earlier front rest p.requested q f keys l)),
            ),
      )
  by_place t i earlier front rest p later h r ih Pending e true f = ih t (front ++ p ∷ []) (past t i earlier front rest p h r)
  by_place t i earlier front rest p later h r ih (Opened j) e b f = absurd (let clash : true ≡ false = ap (λ (x : Standing). is_open x) (sym e) ∙ h in cc)
  by_place t i earlier front rest p later h r ih (Closed reply) e b f = ih t (front ++ p ∷ []) (past t i earlier front rest p h r)

  all_may : (rest earlier front : List Place) (i : ℕ) (t : Core) → list_any (λ p. is_open p.standing) rest ≡ false → Reaches t i earlier front rest → MayOpenAll t (those i (length rest))
  all_may [] earlier front i t h r = tt
  all_may (p ∷ ps) earlier front i t h r =
      let both = neither (is_open p.standing) (list_any (λ p. is_open p.standing) ps) h in
      let front_is : take i s.places ≡ earlier = (λ k. take (sym r.count k) (r.places k)) ∙ take-append_seam earlier (p ∷ ps) in
      let here : slice_get s.places i ≡ Some p = (λ k. slice_get (r.places k) (sym r.count k)) ∙ item_at earlier ps p in
      let later : List ℕ = those (i + 1) (length ps) in
      subst (λ b. MayOpenAll t (cond b (i ∷ later) later)) (λ k. is_free m (sym front_is k) (sym here k))
      (by_place t i earlier front ps p later both.0 r (λ u fs q. all_may ps (earlier ++ p ∷ []) fs (i + 1) u both.1 q) p.standing refl (meets_pending (keys_of p.requested m) m earlier) refl)

pub wave_may_open : (s : Core) → NothingIsOpen s → MayOpenAll s (wave s)
wave_may_open s h = all_may s s.places [] [] 0 s h (record { count = refl; count_front = refl; places = refl; places_now = refl; follow = tt; maps = sym (cut_none [] s.maps (λ q. refl)) })
