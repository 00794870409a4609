-- A wave, one place after another.
use Rattle.std.proofs.Common.{◌≡◌, ℕ, zero, suc, ◌+◌, ◌<◌, ◌≤◌, Bool, true, false, cond, ◌&&◌, not, List, [], ◌∷◌, ◌++◌, take, filter, Option, None, Some, refl, sym, ap, ◌∙◌, arith, append-nil}
use Rattle.std.specs.Prelude.{◌||◌, slice_get}
use Rattle.std.specs.List.{list_any, range_with_len}
use Rattle.std.proofs.lemmas.List.{map-id}
use Rattle.std.proofs.lemmas.List.Elements.{filter-append}
use Rattle.std.proofs.lemmas.List.FromFn.{map-range_with_len_more}
use Rattle.gw_base.specs.declared.key.Key.{Key}
use Rattle.gw_base.specs.declared.key.Key.TheVariants.{Whole}
use Rattle.gw_base.specs.Keys.{has}
use Rattle.gw_base.proofs.NamesInLists.{or_left, or_right, or_cases, either}
use Rattle.gw_foot.specs.Meets.{meets}
use Rattle.gw_board.specs.Carried.{keys_of}
use Rattle.gw_board.specs.Core.{Place, Core}
use Rattle.gw_board.specs.Waiting.{is_waiting, meet_waiting}
use Rattle.gw_board.specs.Waves.{is_pending, meets_pending, is_free}
use Rattle.gw_board.specs.declared.waiting.Waiting.{Waiting}

or_false : (b : Bool) → (b || false) ≡ b
or_false b = grind arith

or_group : (a b c : Bool) → (a || (b || c)) ≡ ((a || b) || c)
or_group a b c = grind arith

pub any-take_more : {X : Type 0} (f : X → Bool) (xs : List X) (i : ℕ) (x : X) → slice_get xs i ≡ Some x → list_any f (take (suc i) xs) ≡ (list_any f (take i xs) || f x)
any-take_more f [] i x e = absurd cc
any-take_more f (y ∷ ys) zero x e = let same : y ≡ x = cc in or_false (f y) ∙ ap f same
any-take_more f (y ∷ ys) (suc i) x e = ap (λ b. f y || b) (any-take_more f ys i x e) ∙ or_group (f y) (list_any f (take i ys)) (f x)

and_false : (b : Bool) → (b && false) ≡ false
and_false b = grind arith

range_more : (n : ℕ) → range_with_len 0 (n + 1) ≡ range_with_len 0 n ++ n ∷ []
range_more n = sym (map-id (range_with_len 0 (n + 1))) ∙ (map-range_with_len_more (λ k. k) 0 n n (omega arith) ∙ ap (λ (ks : List ℕ). ks ++ n ∷ []) (map-id (range_with_len 0 n)))

-- which places are in the wave
abbrev pub free_at : Core → ℕ → Bool
free_at s i = is_free s.maps (take i s.places) (slice_get s.places i)

filter_more : (f : ℕ → Bool) (n : ℕ) → filter f (range_with_len 0 (n + 1)) ≡ filter f (range_with_len 0 n) ++ cond (f n) (n ∷ []) []
filter_more f n = ap (filter f) (range_more n) ∙ filter-append f (range_with_len 0 n) (n ∷ [])

wave_more : (s : Core) (n : ℕ) → filter (free_at s) (range_with_len 0 (n + 1)) ≡ filter (free_at s) (range_with_len 0 n) ++ cond (free_at s n) (n ∷ []) []
wave_more s n = filter_more (free_at s) n

-- where it is in the wave, the place goes last
pub place_more : (s : Core) (n : ℕ) (free : Bool) (old new : List ℕ) → free ≡ free_at s n → old ≡ filter (free_at s) (range_with_len 0 n) → new ≡ old ++ cond free (n ∷ []) [] → new ≡ filter (free_at s) (range_with_len 0 (n + 1))
place_more s n free old new e f h = h ∙ (λ j. f j ++ cond (e j) (n ∷ []) []) ∙ sym (wave_more s n)

-- those that wait are the earlier pending places
abbrev pub AreThose : Core → ℕ → Waiting → Type 0
AreThose s n waiting = (k : List Key) → meet_waiting waiting k ≡ meets_pending k s.maps (take n s.places)

pub those_more : (s : Core) (n : ℕ) (p : Place) (waiting new : Waiting) → slice_get s.places n ≡ Some p → AreThose s n waiting
    → ((k : List Key) → meet_waiting new k ≡ (meet_waiting waiting k || (is_pending p.standing && meets (keys_of p.requested s.maps) k))) → AreThose s (suc n) new
those_more s n p waiting new e h f k =
    f k
    ∙ ap (λ b. b || (is_pending p.standing && meets (keys_of p.requested s.maps) k)) (h k)
    ∙ sym (any-take_more (λ (q : Place). is_pending q.standing && meets (keys_of q.requested s.maps) k) s.places n p e)

pub free_is : (s : Core) (n : ℕ) (p : Place) (waiting : Waiting) (free : Bool) → slice_get s.places n ≡ Some p → AreThose s n waiting
    → free ≡ (is_pending p.standing && not (meet_waiting waiting (keys_of p.requested s.maps))) → free ≡ free_at s n
free_is s n p waiting free e h f = grind arith

-- ---- behind a place that has the whole of the tables

any-take_later : {X : Type 0} (f : X → Bool) (xs : List X) (n i : ℕ) → n ≤ i → list_any f (take n xs) ≡ true → list_any f (take i xs) ≡ true
any-take_later f xs zero i l h = absurd cc
any-take_later f [] (suc n) i l h = absurd cc
any-take_later f (x ∷ xs) (suc n) zero l h = absurd (omega arith)
any-take_later f (x ∷ xs) (suc n) (suc i) l h =
    either (or_cases (f x) (list_any f (take n xs)) h)
    (λ a. or_left (f x) (list_any f (take i xs)) a)
    (λ b. or_right (f x) (list_any f (take i xs)) (any-take_later f xs n i (omega arith) b))

pub none_behind : (s : Core) (n : ℕ) (waiting : Waiting) → AreThose s n waiting → waiting.is_whole ≡ true → (i : ℕ) → n ≤ i → free_at s i ≡ false
none_behind s n waiting h w i l = by (slice_get s.places i)
  where
    met : (k : List Key) → meets_pending k s.maps (take i s.places) ≡ true
    met k = any-take_later (λ (q : Place). is_pending q.standing && meets (keys_of q.requested s.maps) k) s.places n i l
        (sym (h k) ∙ (λ j. w j || (waiting.is_any && has k Whole) || list_any (is_waiting waiting) k))

    by : (o : Option Place) → is_free s.maps (take i s.places) o ≡ false
    by None = refl
    by (Some p) = ap (λ b. is_pending p.standing && not b) (met (keys_of p.requested s.maps)) ∙ and_false (is_pending p.standing)

-- nothing of the rest passes
pub filter_end : (f : ℕ → Bool) (e d : ℕ) → ((i : ℕ) → e ≤ i → i < e + d → f i ≡ false) → filter f (range_with_len 0 (e + d)) ≡ filter f (range_with_len 0 e)
filter_end f e zero h = ap (λ n. filter f (range_with_len 0 n)) (let g : e + zero ≡ e = omega arith in g)
filter_end f e (suc d) h =
    let next : e + suc d ≡ (e + d) + 1 = omega arith in
    ap (λ n. filter f (range_with_len 0 n)) next
    ∙ filter_more f (e + d)
    ∙ ap (λ b. filter f (range_with_len 0 (e + d)) ++ cond b ((e + d) ∷ []) []) (h (e + d) (omega arith) (omega arith))
    ∙ append-nil (filter f (range_with_len 0 (e + d)))
    ∙ filter_end f e d (λ i l m. h i l (omega arith))
