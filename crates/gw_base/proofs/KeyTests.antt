-- Lists of keys: which keys are in them.
use Rattle.std.proofs.Common.{◌≡◌, ℕ, Bool, true, false, ◌⊎◌, inl, inr, List, [], ◌∷◌, ◌++◌, map, refl, sym, ap, ◌∙◌}
use Rattle.std.specs.Prelude.{◌||◌}
use Rattle.std.specs.List.{list_any}
use Rattle.gw_base.specs.declared.ids.CtxNum.{CtxNum}
use Rattle.gw_base.specs.declared.key.Key.{Key}
use Rattle.gw_base.specs.declared.key.Key.TheVariants.{Term, Ctx, Whole}
use Rattle.gw_base.specs.Keys.{same_key, has, AreApart}
use Rattle.gw_base.specs.NameLists.{is_in}
use Rattle.gw_base.proofs.NameTests.{number_itself}
use Rattle.gw_base.proofs.NamesInLists.{or_left, or_right, or_cases, either, itself}

-- ---- a test of some item of two lists

pub any-append_cases : {X : Type 0} (p : X → Bool) (xs ys : List X) → list_any p (xs ++ ys) ≡ true → (list_any p xs ≡ true) ⊎ (list_any p ys ≡ true)
any-append_cases p [] ys h = inr h
any-append_cases p (x ∷ xs) ys h =
    either (or_cases (p x) (list_any p (xs ++ ys)) h)
    (λ a. inl (or_left (p x) (list_any p xs) a))
    (λ b. either (any-append_cases p xs ys b) (λ c. inl (or_right (p x) (list_any p xs) c)) (λ c. inr c))

pub any-append_left : {X : Type 0} (p : X → Bool) (xs ys : List X) → list_any p xs ≡ true → list_any p (xs ++ ys) ≡ true
any-append_left p [] ys h = absurd cc
any-append_left p (x ∷ xs) ys h =
    either (or_cases (p x) (list_any p xs) h)
    (λ a. or_left (p x) (list_any p (xs ++ ys)) a)
    (λ b. or_right (p x) (list_any p (xs ++ ys)) (any-append_left p xs ys b))

pub any-append_right : {X : Type 0} (p : X → Bool) (xs ys : List X) → list_any p ys ≡ true → list_any p (xs ++ ys) ≡ true
any-append_right p [] ys h = h
any-append_right p (x ∷ xs) ys h = or_right (p x) (list_any p (xs ++ ys)) (any-append_right p xs ys h)

-- ---- keys

pub same-itself : (k : Key) → same_key k k ≡ true
same-itself (Term t) = itself t
same-itself (Ctx n) = number_itself n n refl
same-itself Whole = refl

pub has-head : (k : Key) (keys : List Key) → has (k ∷ keys) k ≡ true
has-head k keys = or_left (same_key k k) (has keys k) (same-itself k)

pub has-tail : (x k : Key) (keys : List Key) → has keys k ≡ true → has (x ∷ keys) k ≡ true
has-tail x k keys h = or_right (same_key k x) (has keys k) h

-- the keys of names
pub has-names : (l : List (List ℕ)) (q : List ℕ) → has (map (λ t. Term t) l) (Term q) ≡ is_in q l
has-names [] q = refl
has-names (t ∷ ts) q = ap (λ b. same_key (Term q) (Term t) || b) (has-names ts q)

pub names_no_ctx : (l : List (List ℕ)) (q : CtxNum) → has (map (λ t. Term t) l) (Ctx q) ≡ false
names_no_ctx [] q = refl
names_no_ctx (t ∷ ts) q = names_no_ctx ts q

pub names_no_whole : (l : List (List ℕ)) → has (map (λ t. Term t) l) Whole ≡ false
names_no_whole [] = refl
names_no_whole (t ∷ ts) = names_no_whole ts

-- ---- keys that are apart

no_both : (x y : Bool) → (x ≡ true → y ≡ false) → y ≡ true → x ≡ false
no_both true y f h = absurd (let clash : true ≡ false = sym h ∙ f refl in cc)
no_both false y f h = refl

pub apart_turned : (a b : List Key) → AreApart a b → AreApart b a
apart_turned a b h = record { keys = λ k. no_both (has a k) (has b k) (h.keys k); whole_a = h.whole_b; whole_b = h.whole_a }
