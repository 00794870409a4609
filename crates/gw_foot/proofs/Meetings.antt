-- Keys that do not meet are apart.
use Rattle.std.proofs.Common.{◌≡◌, Bool, true, false, List, [], ◌∷◌, refl, sym, subst, ◌∙◌}
use Rattle.std.specs.Prelude.{◌||◌}
use Rattle.std.specs.List.{list_any}
use Rattle.gw_base.specs.declared.key.Key.{Key}
use Rattle.gw_base.specs.declared.key.Key.TheVariants.{Whole}
use Rattle.gw_base.specs.Keys.{same_key, has, AreApart}
use Rattle.gw_base.proofs.Booleans.{neither, refuted}
use Rattle.gw_base.proofs.KeyTests.{has-head, has-tail, apart_turned}
use Rattle.gw_base.proofs.NamesInLists.{or_left, or_right, or_cases, either}
use Rattle.gw_table.proofs.KeyOrder.{same_key_is}
use Rattle.gw_foot.specs.Meets.{meets}

-- a key in both lists is found
found : (a b : List Key) (k : Key) → has a k ≡ true → has b k ≡ true → list_any (has a) b ≡ true
found a [] k h i = absurd cc
found a (x ∷ xs) k h i =
    either (or_cases (same_key k x) (has xs k) i)
    (λ e. or_left (has a x) (list_any (has a) xs) (subst (λ (y : Key). has a y ≡ true) (same_key_is k x e) h))
    (λ e. or_right (has a x) (list_any (has a) xs) (found a xs k h e))

pub apart_if : (a b : List Key) → meets a b ≡ false → AreApart a b
apart_if a b h =
    let x = neither (has a Whole || has b Whole) (list_any (has a) b) h in
    let y = neither (has a Whole) (has b Whole) x.0 in
    record {
      keys = λ k i. refuted (has b k) (λ j. let clash : true ≡ false = sym (found a b k i j) ∙ x.1 in cc);
      whole_a = y.0;
      whole_b = y.1;
    }

or_none : (a b : Bool) → a ≡ false → b ≡ false → (a || b) ≡ false
or_none true b e f = e
or_none false b e f = f

none_found : (a b : List Key) → ((k : Key) → has b k ≡ true → has a k ≡ false) → list_any (has a) b ≡ false
none_found a [] f = refl
none_found a (x ∷ xs) f = or_none (has a x) (list_any (has a) xs) (f x (has-head x xs)) (none_found a xs (λ k h. f k (has-tail x k xs h)))

pub apart_only : (a b : List Key) → AreApart a b → meets a b ≡ false
apart_only a b h = or_none (has a Whole || has b Whole) (list_any (has a) b) (or_none (has a Whole) (has b Whole) h.whole_a h.whole_b) (none_found a b (apart_turned a b h).keys)
