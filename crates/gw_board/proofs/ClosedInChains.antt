-- Places are closed one after another, each with the next text of its chain.
use Rattle.std.proofs.Common.{◌≡◌, ◌⊎◌, inl, inr, ℕ, zero, suc, ◌+◌, ◌-◌, ◌<◌, ◌≤◌, eqb, true, false, cond, List, [], ◌∷◌, length, take, drop, get_or, Option, None, Some, refl, sym, ap, subst, ◌∙◌, eq-eqb, add-one, arith}
use Rattle.std.specs.Prelude.{◌≢◌, slice_get, slice_set}
use Rattle.std.proofs.lemmas.Bool.Decides.{eqb_tells}
use Rattle.std.proofs.lemmas.List.{drop-set-lt, drop_all, drop_more}
use Rattle.gw_board.specs.declared.profile.Profile.{Profile}
use Rattle.gw_table.specs.Maps.{Maps}
use Rattle.gw_table.specs.Stored.{Stored}
use Rattle.gw_board.specs.Boards.{is_pending_at, AllClosed}
use Rattle.gw_board.specs.Carried.{BurstRequest, done, carried}
use Rattle.gw_board.specs.Chained.{item_of, AreTexts, IsNext}
use Rattle.gw_board.specs.Chains.{Chained, requests_of, answers_in}
use Rattle.gw_board.specs.Core.{Standing, Pending, Opened, Closed, Place, pending, closed_with}
use Rattle.gw_board.specs.GoingOn.{MayGoOn}
use Rattle.gw_board.specs.Stretches.{chained}
use Rattle.gw_board.specs.Texts.{Text}
use Rattle.gw_board.specs.Waves.{is_pending}
use Rattle.gw_board.proofs.CarriedAlone.{alone_goes_on}

-- These requests are left, and of each chain their texts. Executing them on the maps of the board as it is leaves the maps in the end.
pub record AreLeft (profile : Profile) (start : Stored) (end : Maps) (xs : List Chained) (places : List Place) (texts : List (List Text)) : Type 0 where
  pub maps : Maps
  pub goes_on : MayGoOn profile start maps places
  pub told : AreTexts profile xs maps texts
  pub comes_to : (carried profile (requests_of xs) maps).maps ≡ end

-- ---- a place of which the request is the first of them

module _ (profile : Profile) (start : Stored) (end : Maps) (g : ℕ) (a : BurstRequest) (xs : List Chained) (places : List Place) (texts : List (List Text)) (left : AreLeft profile start end (record { chain = g; requested = a } ∷ xs) places texts) where
  abbrev text : Text
  text = (done profile a left.maps).answer

  abbrev after : Maps
  after = (done profile a left.maps).maps

  abbrev texts_of : ℕ → List Text
  texts_of h = answers_in h xs (carried profile (requests_of xs) after).answer

  pub has_text : item_of texts g ≡ text ∷ texts_of g
  has_text = left.told g ∙ ap (λ b. cond b (text ∷ texts_of g) (texts_of g)) (eq-eqb g g refl)

  module _ (i : ℕ) (pends : slice_get places i ≡ Some (pending a)) (first : AllClosed (take i places)) (taken : Text) (new : List (List Text)) (next : IsNext g texts taken new) where
    is_text : taken ≡ text
    is_text = let e = has_text in let f = next.first in cc

    texts_left : (h : ℕ) → item_of new h ≡ texts_of h
    texts_left h = by (eqb_tells h g)
      where
        here : item_of new g ≡ texts_of g
        here = let e = has_text in let f = next.first in cc

        by : ((eqb h g ≡ true) × (h ≡ g)) ⊎ ((eqb h g ≡ false) × (h ≢ g)) → item_of new h ≡ texts_of h
        by (inl s) = subst (λ (k : ℕ). item_of new k ≡ texts_of k) (sym s.1) here
        by (inr s) = next.others h s.1 ∙ left.told h ∙ ap (λ b. cond b (text ∷ texts_of h) (texts_of h)) s.0

    pub left_behind : AreLeft profile start end xs (slice_set places i (closed_with a taken)) new
    left_behind = record {
      maps = after;
      goes_on = subst (λ (t : Text). MayGoOn profile start after (slice_set places i (closed_with a t))) (sym is_text) (alone_goes_on profile start left.maps places left.goes_on i a pends first);
      told = texts_left;
      comes_to = left.comes_to;
    }

-- ---- what is left at a place

drop_at : {X : Type 0} (xs : List X) (i : ℕ) (x : X) → slice_get xs i ≡ Some x → drop i xs ≡ x ∷ drop (suc i) xs
drop_at [] i x e = absurd cc
drop_at (y ∷ ys) zero x e = let same : y ≡ x = cc in ap (λ z. z ∷ ys) same
drop_at (y ∷ ys) (suc i) x e = drop_at ys i x e

-- the requests of the places from the number i on, of which the first has the first of the numbers
abbrev pub rest_at : List ℕ → ℕ → List Place → ℕ → List Chained
rest_at numbers first places i = chained (drop (i - first) numbers) (drop i places)

module _ (numbers : List ℕ) (first : ℕ) (places : List Place) (i : ℕ) (p : Place) (from : first ≤ i) (inside : i - first < length numbers) (there : slice_get places i ≡ Some p) where
  abbrev g : ℕ
  g = get_or numbers (i - first) 0

  abbrev later : List Chained
  later = rest_at numbers first places (i + 1)

  splits : rest_at numbers first places i ≡ cond (is_pending p.standing) (record { chain = g; requested = p.requested } ∷ later) later
  splits =
      let k : (i - first) + 1 ≡ (i + 1) - first = omega arith in
      let e : drop (i - first) numbers ≡ g ∷ drop ((i + 1) - first) numbers = drop_more numbers (i - first) 0 inside ∙ ap (λ n. g ∷ drop n numbers) k in
      let f : drop i places ≡ p ∷ drop (i + 1) places = drop_at places i p there ∙ ap (λ n. p ∷ drop n places) (sym (add-one i)) in
      λ j. chained (e j) (f j)

  pub rest_pending : is_pending p.standing ≡ true → rest_at numbers first places i ≡ record { chain = g; requested = p.requested } ∷ later
  rest_pending on = splits ∙ ap (λ b. cond b (record { chain = g; requested = p.requested } ∷ later) later) on

  pub rest_passed : is_pending p.standing ≡ false → rest_at numbers first places i ≡ later
  rest_passed off = splits ∙ ap (λ b. cond b (record { chain = g; requested = p.requested } ∷ later) later) off

-- ---- at the first place, and behind the last one

module _ (profile : Profile) (start : Stored) (numbers : List ℕ) (first : ℕ) (places : List Place) (texts : List (List Text)) where
  pub all_left : (m : Maps) → MayGoOn profile start m places → AreTexts profile (chained numbers (drop first places)) m texts
      → AreLeft profile start (carried profile (requests_of (chained numbers (drop first places))) m).maps (rest_at numbers first places first) places texts
  all_left m goes_on told =
      let none : 0 ≡ first - first = omega arith in
      subst (λ (n : ℕ). AreLeft profile start (carried profile (requests_of (chained numbers (drop first places))) m).maps (chained (drop n numbers) (drop first places)) places texts) none
      (record { maps = m; goes_on = goes_on; told = told; comes_to = refl })

  pub none_left : (end : Maps) (i : ℕ) → length numbers ≤ i - first → AreLeft profile start end (rest_at numbers first places i) places texts → MayGoOn profile start end places
  none_left end i past left =
      let over : AreLeft profile start end [] places texts = subst (λ (l : List ℕ). AreLeft profile start end (chained l (drop i places)) places texts) (drop_all (i - first) numbers past) left in
      subst (λ (n : Maps). MayGoOn profile start n places) over.comes_to over.goes_on

-- ---- from one place to the next

module _ (profile : Profile) (start : Stored) (end : Maps) (numbers : List ℕ) (first : ℕ) (places : List Place) (texts : List (List Text)) (i : ℕ) (from : first ≤ i) (inside : i - first < length numbers) (left : AreLeft profile start end (rest_at numbers first places i) places texts) where
  pub passed_left : (p : Place) → slice_get places i ≡ Some p → is_pending p.standing ≡ false → AreLeft profile start end (rest_at numbers first places (i + 1)) places texts
  passed_left p there off = subst (λ (xs : List Chained). AreLeft profile start end xs places texts) (rest_passed numbers first places i p from inside there off) left

  module _ (a : BurstRequest) (pends : slice_get places i ≡ Some (pending a)) where
    abbrev number : ℕ
    number = get_or numbers (i - first) 0

    left_here : AreLeft profile start end (record { chain = number; requested = a } ∷ rest_at numbers first places (i + 1)) places texts
    left_here = subst (λ (xs : List Chained). AreLeft profile start end xs places texts) (rest_pending numbers first places i (pending a) from inside pends refl) left

    pub some_left : item_of texts number ≡ [] → ⊥
    some_left e = let f = has_text profile start end number a (rest_at numbers first places (i + 1)) places texts left_here in absurd cc

    pub next_left : AllClosed (take i places) → (taken : Text) (new : List (List Text)) → IsNext number texts taken new
        → AreLeft profile start end (rest_at numbers first (slice_set places i (closed_with a taken)) (i + 1)) (slice_set places i (closed_with a taken)) new
    next_left closed taken new next =
        subst (λ (ps : List Place). AreLeft profile start end (chained (drop ((i + 1) - first) numbers) ps) (slice_set places i (closed_with a taken)) new)
        (sym (drop-set-lt (i + 1) places i (closed_with a taken) (omega arith)))
        (left_behind profile start end number a (rest_at numbers first places (i + 1)) places texts left_here i pends closed taken new next)

-- what is pending is so with a request
pub pending_there : (o : Option Place) → is_pending_at o ≡ true → (a : BurstRequest) × (o ≡ Some (pending a))
pending_there None e = absurd cc
pending_there (Some p) e = (p.requested, ap (λ (x : Standing). Some (record { requested = p.requested; standing = x })) (is p.standing e))
  where
    is : (x : Standing) → is_pending x ≡ true → x ≡ Pending
    is Pending f = refl
    is (Opened j) f = absurd cc
    is (Closed reply) f = absurd cc
