-- Two lists of keys in order: where `Whole` stands in one, and whether a key is in both.
use Rattle.std.proofs.Common.{◌≡◌, ◌-◌, ◌<◌, Bool, true, false, List, [], ◌∷◌, length, slice_get, get_or, take, drop, suc, Some, refl, sym, ap, subst, ◌∙◌, arith}
use Rattle.std.specs.Prelude.{◌||◌}
use Rattle.std.specs.List.{list_any, AllByRecursion}
use Rattle.std.specs.Ordering.{is_eq, ordering_reverse}
use Rattle.std.specs.declared.cmp.Ordering.TheVariants.{Less, Equal, Greater}
use Rattle.std.proofs.lemmas.List.{take_rest}
use Rattle.std.proofs.lemmas.Map.Keys.{sorted_head, sorted_tail}
use Rattle.gw_base.specs.declared.key.Key.{Key}
use Rattle.gw_base.specs.declared.key.Key.TheVariants.{Whole}
use Rattle.gw_base.specs.Keys.{has, same_key}
use Rattle.gw_table.specs.KeyLists.{key_cmp, IsInOrder}
use Rattle.gw_table.proofs.KeyOrder.{key_total, key_test}

-- ---- who comes first

not_first : (a b : Key) → key_cmp a b ≡ Less → same_key a b ≡ false
not_first a b e = sym (key_test a b) ∙ ap is_eq e

turned : (a b : Key) → key_cmp a b ≡ Less → same_key b a ≡ false
turned a b e = sym (key_test b a) ∙ ap is_eq (key_total.antisymm b a ∙ ap ordering_reverse e)

abbrev Above : Key → List Key → Type 0
Above x ys = AllByRecursion (λ y. key_cmp x y ≡ Less) ys

above_not_in : (x : Key) (ys : List Key) → Above x ys → has ys x ≡ false
above_not_in x [] h = refl
above_not_in x (y ∷ ys) h = ap (λ b. b || has ys x) (not_first x y h.0) ∙ above_not_in x ys h.1

above_too : (x y : Key) (ys : List Key) → key_cmp x y ≡ Less → Above y ys → Above x ys
above_too x y [] e h = tt
above_too x y (z ∷ zs) e h = (key_total.trans x y z e h.0, above_too x y zs e h.1)

above_all : (x y : Key) (ys : List Key) → key_cmp x y ≡ Less → IsInOrder (y ∷ ys) → Above x (y ∷ ys)
above_all x y ys e h = (e, above_too x y ys e (sorted_head key_cmp y ys h))

-- ---- where two lists have a key in common

abbrev pub behind : List Key → List Key
behind l = take (length l - 1) (drop 1 l)

without_first : (y : Key) (ys ks : List Key) → Above y ks → list_any (has (y ∷ ys)) ks ≡ list_any (has ys) ks
without_first y ys [] h = refl
without_first y ys (k ∷ ks) h = ap (λ b. (b || has ys k) || list_any (has (y ∷ ys)) ks) (turned y k h.0) ∙ ap (λ b. has ys k || b) (without_first y ys ks h.1)

pub shared_less : (x y : Key) (xs ys : List Key) → key_cmp x y ≡ Less → IsInOrder (y ∷ ys) → list_any (has (y ∷ ys)) (x ∷ xs) ≡ list_any (has (y ∷ ys)) xs
shared_less x y xs ys e h = ap (λ b. b || list_any (has (y ∷ ys)) xs) (above_not_in x (y ∷ ys) (above_all x y ys e h))

pub shared_greater : (x y : Key) (xs ys : List Key) → key_cmp x y ≡ Greater → IsInOrder (x ∷ xs) → list_any (has (y ∷ ys)) (x ∷ xs) ≡ list_any (has ys) (x ∷ xs)
shared_greater x y xs ys e h = without_first y ys (x ∷ xs) (above_all y x xs (key_total.antisymm y x ∙ ap ordering_reverse e) h)

pub shared_equal : (x y : Key) (xs ys : List Key) → key_cmp x y ≡ Equal → list_any (has (y ∷ ys)) (x ∷ xs) ≡ true
shared_equal x y xs ys e = ap (λ b. (b || has ys x) || list_any (has (y ∷ ys)) xs) (sym (key_test x y) ∙ ap is_eq e)

pub shared_none : (ks : List Key) → list_any (has []) ks ≡ false
shared_none [] = refl
shared_none (k ∷ ks) = shared_none ks

-- ---- on the way through both

-- what is left of both is in order, and has a key in common exactly where the whole lists have one
pub record IsLeft (a b left right : List Key) : Type 0 where
  pub left_order : IsInOrder left
  pub right_order : IsInOrder right
  pub same : list_any (has right) left ≡ list_any (has b) a

module _ (a b : List Key) where
  pub left_less : (l r : List Key) (x y : Key) → 0 < length l → 0 < length r → x ≡ get_or l 0 x → y ≡ get_or r 0 y → key_cmp x y ≡ Less → IsLeft a b l r → IsLeft a b (behind l) r
  left_less [] r x y i j d e c h = absurd (omega arith)
  left_less (u ∷ us) [] x y i j d e c h = absurd (omega arith)
  left_less (u ∷ us) (v ∷ vs) x y i j d e c h =
      let first : key_cmp u v ≡ Less = ap (λ k. key_cmp k v) (sym d) ∙ ap (λ k. key_cmp x k) (sym e) ∙ c in
      subst (λ (q : List Key). IsLeft a b q (v ∷ vs)) (sym (take_rest (u ∷ us) 1)) (record {
        left_order = sorted_tail key_cmp u us h.left_order;
        right_order = h.right_order;
        same = sym (shared_less u v us vs first h.right_order) ∙ h.same;
      })

  pub left_greater : (l r : List Key) (x y : Key) → 0 < length l → 0 < length r → x ≡ get_or l 0 x → y ≡ get_or r 0 y → key_cmp x y ≡ Greater → IsLeft a b l r → IsLeft a b l (behind r)
  left_greater [] r x y i j d e c h = absurd (omega arith)
  left_greater (u ∷ us) [] x y i j d e c h = absurd (omega arith)
  left_greater (u ∷ us) (v ∷ vs) x y i j d e c h =
      let first : key_cmp u v ≡ Greater = ap (λ k. key_cmp k v) (sym d) ∙ ap (λ k. key_cmp x k) (sym e) ∙ c in
      subst (λ (q : List Key). IsLeft a b (u ∷ us) q) (sym (take_rest (v ∷ vs) 1)) (record {
        left_order = h.left_order;
        right_order = sorted_tail key_cmp v vs h.right_order;
        same = sym (shared_greater u v us vs first h.left_order) ∙ h.same;
      })

  pub left_equal : (l r : List Key) (x y : Key) → 0 < length l → 0 < length r → x ≡ get_or l 0 x → y ≡ get_or r 0 y → key_cmp x y ≡ Equal → IsLeft a b l r → true ≡ list_any (has b) a
  left_equal [] r x y i j d e c h = absurd (omega arith)
  left_equal (u ∷ us) [] x y i j d e c h = absurd (omega arith)
  left_equal (u ∷ us) (v ∷ vs) x y i j d e c h =
      let first : key_cmp u v ≡ Equal = ap (λ k. key_cmp k v) (sym d) ∙ ap (λ k. key_cmp x k) (sym e) ∙ c in
      sym (shared_equal u v us vs first) ∙ h.same

  pub left_empty : (l r : List Key) → length l < 1 → IsLeft a b l r → false ≡ list_any (has b) a
  left_empty [] r i h = h.same
  left_empty (u ∷ us) r i h = absurd (omega arith)

  pub right_empty : (l r : List Key) → length r < 1 → IsLeft a b l r → false ≡ list_any (has b) a
  right_empty l [] i h = sym (shared_none l) ∙ h.same
  right_empty l (v ∷ vs) i h = absurd (omega arith)

-- ---- the last key

not_whole : (a b : Key) → key_cmp a b ≡ Less → same_key Whole a ≡ false
not_whole a b e = grind arith

or_false : (b : Bool) → (b || false) ≡ b
or_false b = grind arith

pub last_whole : (keys : List Key) (k : Key) → IsInOrder keys → Some k ≡ slice_get keys (length keys - 1) → same_key Whole k ≡ has keys Whole
last_whole [] k h e = absurd cc
last_whole (x ∷ []) k h e = let same : k ≡ x = cc in ap (same_key Whole) same ∙ sym (or_false (same_key Whole x))
last_whole (x ∷ (y ∷ zs)) k h e =
    let there : suc (suc (length zs)) - 1 ≡ suc (length zs) = omega arith in
    let here : suc (length zs) - 1 ≡ length zs = omega arith in
    let last : Some k ≡ slice_get (y ∷ zs) (suc (length zs) - 1) = e ∙ ap (λ n. slice_get (x ∷ (y ∷ zs)) n) there ∙ ap (λ n. slice_get (y ∷ zs) n) (sym here) in
    last_whole (y ∷ zs) k (sorted_tail key_cmp x (y ∷ zs) h) last ∙ sym (ap (λ b. b || has (y ∷ zs) Whole) (not_whole x y (sorted_head key_cmp x (y ∷ zs) h).0))
