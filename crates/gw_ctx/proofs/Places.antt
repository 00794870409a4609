-- Links that are kept by the places of their names: what a change of names or places leaves.
use Rattle.std.proofs.Common.{◌≡◌, ℕ, ◌<◌, nat_eq, Bool, true, false, not, ◌&&◌, ◌||◌, cond, List, [], ◌∷◌, ◌++◌, length, get_or, map, filter, bytes_eq, All, None, Some, arith, ap, refl, sym, subst, ◌∙◌, length-append}
use Rattle.std.specs.Prelude.{AllPairs}
use Rattle.std.specs.List.{position}
use Rattle.std.proofs.lemmas.Bool.{both_ways, false_from_ne_true}
use Rattle.std.proofs.lemmas.List.{get_or_append_left, map-append}
use Rattle.std.proofs.lemmas.List.Elements.{All-filter, All-append, All-weaker, All-map, filter_passes}
use Rattle.std.proofs.lemmas.List.Folds.{list_any_at, list_any_none}
use Rattle.std.proofs.lemmas.List.Quantifiers.{all_pairs_push, position-Some}
use Rattle.gw_base.specs.NameLists.{is_in}
use Rattle.gw_base.specs.declared.context_words.Flow.{Flow}
use Rattle.gw_base.specs.declared.context_words.Link.{Link}
use Rattle.gw_base.proofs.NamesInLists.{other_way, itself}
use Rattle.gw_base.proofs.NameTests.{same_name}
use Rattle.gw_ctx.specs.declared.pairs.Pair.{Pair}
use Rattle.gw_ctx.specs.Contexts.{is_apart_from, is_other_pair, links_without, links_beside, kept_link}
use Rattle.gw_ctx.specs.Places.{link_at, links_at, is_off, joins_others, kept_pair, IsWithin, AreKept, with_name, renumbered}
use Rattle.gw_ctx.proofs.Lists.{map_agree, map_through, filter_all, filter_through, none_passes, place_within}
use Rattle.gw_ctx.proofs.Numbers.{IsSwapped, moved_within, moved_there, apart_swapped}

-- a name stands where the place of it is, and nowhere else
apart_at : (names : List (List ℕ)) (i k : ℕ) → AllPairs (λ s t. bytes_eq s t ≡ false) names → i < length names → k < length names → bytes_eq (get_or names i []) (get_or names k []) ≡ nat_eq k i
apart_at names i k h l m = grind (arith, itself, other_way)

pub name_at : (names : List (List ℕ)) (name : List ℕ) (i k : ℕ) → AllPairs (λ s t. bytes_eq s t ≡ false) names → i < length names → get_or names i [] ≡ name → k < length names → bytes_eq name (get_or names k []) ≡ nat_eq k i
name_at names name i k h l e m = ap (λ (n : List ℕ). bytes_eq n (get_or names k [])) (sym e) ∙ apart_at names i k h l m

-- where the place of a name is known
pub found_there : (names : List (List ℕ)) (name : List ℕ) (i : ℕ) → position (bytes_eq name) names ≡ Some i → get_or names i [] ≡ name
found_there names name i e = sym (same_name name (get_or names i []) (position-Some (bytes_eq name) names i [] e).1)

-- a name that is there does not go last, and one that is not there does
pub name_known : (names : List (List ℕ)) (name : List ℕ) (i : ℕ) → position (bytes_eq name) names ≡ Some i → with_name name names ≡ names
name_known names name i e = ap (λ (b : Bool). cond b names (names ++ name ∷ [])) (list_any_at (bytes_eq name) names i [] (place_within (bytes_eq name) names i e) (position-Some (bytes_eq name) names i [] e).1)

pub name_new : (names : List (List ℕ)) (name : List ℕ) → position (bytes_eq name) names ≡ None → with_name name names ≡ names ++ name ∷ []
name_new names name e = ap (λ (b : Bool). cond b names (names ++ name ∷ [])) (list_any_none (bytes_eq name) names (none_passes (bytes_eq name) names e))

-- neither of the two stands there
pub off_parts : (g : ℕ) (p : Pair) → is_off g p ≡ true → (p.a ≡ g → ⊥) × (p.b ≡ g → ⊥)
off_parts g p e = grind arith

-- two tests of two parts
neither_is : (a b : Bool) → a ≡ false → b ≡ false → not (a || b) ≡ true
neither_is a b e f = grind arith

same_neither : (a b c d : Bool) → a ≡ c → b ≡ d → not (a || b) ≡ not (c || d)
same_neither a b c d e f = ap (λ (t : Bool). not (t || b)) e ∙ ap (λ (t : Bool). not (c || t)) f

same_both : (a b c d : Bool) → a ≡ c → b ≡ d → (a && b) ≡ (c && d)
same_both a b c d e f = ap (λ (t : Bool). t && b) e ∙ ap (λ (t : Bool). c && t) f

-- equal names are linked alike
same_link : {a b c d : List ℕ} (flow : Flow) → a ≡ c → b ≡ d → (let l : Link = record { a = a; b = b; flow = flow } in l) ≡ record { a = c; b = d; flow = flow }
same_link {a} {b} {c} {d} flow e f = ap (λ (t : List ℕ). let l : Link = record { a = t; b = b; flow = flow } in l) e ∙ ap (λ (t : List ℕ). let l : Link = record { a = c; b = t; flow = flow } in l) f

module _ (names : List (List ℕ)) (pairs : List Pair) (kept : AreKept names pairs) where
  -- ---- links of a name

  apart_from : (name : List ℕ) (i : ℕ) → i < length names → get_or names i [] ≡ name → All (λ p. is_apart_from name (link_at names p) ≡ is_off i p) pairs
  apart_from name i l e k d h =
      let p : Pair = get_or pairs k d in
      same_neither (bytes_eq name (get_or names p.a [])) (bytes_eq name (get_or names p.b [])) (nat_eq p.a i) (nat_eq p.b i)
      (name_at names name i p.a kept.apart l e (kept.within k d h).first) (name_at names name i p.b kept.apart l e (kept.within k d h).second)

  pub without_there : (name : List ℕ) (i : ℕ) → position (bytes_eq name) names ≡ Some i → links_without name (links_at names pairs) ≡ links_at names (filter (is_off i) pairs)
  without_there name i e = filter_through (is_apart_from name) (is_off i) (link_at names) pairs (apart_from name i (place_within (bytes_eq name) names i e) (found_there names name i e))

  -- what no name is told of
  untold : (name : List ℕ) → position (bytes_eq name) names ≡ None → (k : ℕ) → k < length names → bytes_eq name (get_or names k []) ≡ false
  untold name e k h = none_passes (bytes_eq name) names e k [] h

  pub without_none : (name : List ℕ) → position (bytes_eq name) names ≡ None → links_without name (links_at names pairs) ≡ links_at names pairs
  without_none name e =
      filter_all (is_apart_from name) (links_at names pairs)
      (All-map (λ l. is_apart_from name l ≡ true) (link_at names) pairs (λ k d h.
      let p : Pair = get_or pairs k d in
      neither_is (bytes_eq name (get_or names p.a [])) (bytes_eq name (get_or names p.b [])) (untold name e p.a (kept.within k d h).first) (untold name e p.b (kept.within k d h).second)))

  -- ---- the link of a pair

  beside_at : (link : Link) (a b : ℕ) → a < length names → b < length names → get_or names a [] ≡ link.a → get_or names b [] ≡ link.b → All (λ p. is_other_pair link (link_at names p) ≡ joins_others a b p) pairs
  beside_at link a b l m e f k d h =
      let p : Pair = get_or pairs k d in
      let first : p.a < length names = (kept.within k d h).first in
      let second : p.b < length names = (kept.within k d h).second in
      same_neither (bytes_eq link.a (get_or names p.a []) && bytes_eq link.b (get_or names p.b [])) (bytes_eq link.a (get_or names p.b []) && bytes_eq link.b (get_or names p.a [])) (nat_eq p.a a && nat_eq p.b b) (nat_eq p.b a && nat_eq p.a b)
      (same_both (bytes_eq link.a (get_or names p.a [])) (bytes_eq link.b (get_or names p.b [])) (nat_eq p.a a) (nat_eq p.b b) (name_at names link.a a p.a kept.apart l e first) (name_at names link.b b p.b kept.apart m f second))
      (same_both (bytes_eq link.a (get_or names p.b [])) (bytes_eq link.b (get_or names p.a [])) (nat_eq p.b a) (nat_eq p.a b) (name_at names link.a a p.b kept.apart l e second) (name_at names link.b b p.a kept.apart m f first))

  pub beside_there : (link : Link) (a b : ℕ) → a < length names → b < length names → get_or names a [] ≡ link.a → get_or names b [] ≡ link.b → links_beside link (links_at names pairs) ≡ links_at names (filter (joins_others a b) pairs)
  beside_there link a b l m e f = filter_through (is_other_pair link) (joins_others a b) (link_at names) pairs (beside_at link a b l m e f)

  -- ---- what stays kept

  pub kept_filtered : (p : Pair → Bool) → AreKept names (filter p pairs)
  kept_filtered p = record {
    apart = kept.apart;
    within = All-filter p (IsWithin (length names)) pairs kept.within;
  }

  grown_by : (name : List ℕ) (b : Bool) → is_in name names ≡ b → AreKept (cond b names (names ++ name ∷ [])) pairs × (links_at (cond b names (names ++ name ∷ [])) pairs ≡ links_at names pairs)
  grown_by name true e = (kept, refl)
  grown_by name false e = (
    record {
      apart = all_pairs_push (λ s t. bytes_eq s t ≡ false) names name kept.apart (λ k d h. other_way name (get_or names k d) (false_from_ne_true (bytes_eq name (get_or names k d)) (λ f. both_ways (is_in name names) e (list_any_at (bytes_eq name) names k d h f))));
      within = All-weaker (IsWithin (length names)) (IsWithin (length (names ++ name ∷ []))) (λ p w. record { first = omega (arith, w.first, length-append names (name ∷ [])); second = omega (arith, w.second, length-append names (name ∷ [])) }) pairs kept.within;
    },
    map_agree (link_at (names ++ name ∷ [])) (link_at names) pairs (λ k d h.
        let p : Pair = get_or pairs k d in
        let first : get_or (names ++ name ∷ []) p.a [] ≡ get_or names p.a [] = get_or_append_left names (name ∷ []) [] p.a (kept.within k d h).first in
        let second : get_or (names ++ name ∷ []) p.b [] ≡ get_or names p.b [] = get_or_append_left names (name ∷ []) [] p.b (kept.within k d h).second in
        same_link p.flow first second),
  )

  -- a name more
  pub grown_kept : (name : List ℕ) → AreKept (with_name name names) pairs
  grown_kept name = (grown_by name (is_in name names) refl).0

  pub grown_same : (name : List ℕ) → links_at (with_name name names) pairs ≡ links_at names pairs
  grown_same name = (grown_by name (is_in name names) refl).1

  -- ---- a name less

  pub forgotten_kept : (new : List (List ℕ)) (g : ℕ) → IsSwapped names new g → g < length names → All (λ p. is_off g p ≡ true) pairs → AreKept new (map (renumbered (length new) g) pairs)
  forgotten_kept new g s l off = record {
    apart = apart_swapped names new g s kept.apart;
    within = All-map (IsWithin (length new)) (renumbered (length new) g) pairs (λ k d h.
        let p : Pair = get_or pairs k d in
        let o = off_parts g p (off k d h) in
        record { first = moved_within names new g s l p.a (kept.within k d h).first o.0; second = moved_within names new g s l p.b (kept.within k d h).second o.1 });
  }

  pub forgotten_same : (new : List (List ℕ)) (g : ℕ) → IsSwapped names new g → g < length names → All (λ p. is_off g p ≡ true) pairs → links_at new (map (renumbered (length new) g) pairs) ≡ links_at names pairs
  forgotten_same new g s l off = map_through (link_at new) (renumbered (length new) g) (link_at names) pairs (λ k d h.
      let p : Pair = get_or pairs k d in
      let o = off_parts g p (off k d h) in
      same_link p.flow (moved_there names new g s l p.a [] (kept.within k d h).first o.0) (moved_there names new g s l p.b [] (kept.within k d h).second o.1))

-- a name more leaves the others where they are
grown_at : (name : List ℕ) (names : List (List ℕ)) (k : ℕ) → k < length names → (k < length (with_name name names)) × (get_or (with_name name names) k [] ≡ get_or names k [])
grown_at name names k h = grind (arith, length-append, get_or_append_left)

-- one more link, unless it is both ways
within_kept : (n : ℕ) (new : Pair) (w : Flow) → IsWithin n new → All (IsWithin n) (kept_pair new w)
within_kept n new w h = grind arith

kept_more : (names : List (List ℕ)) (pairs : List Pair) (new : Pair) (w : Flow) → AreKept names pairs → IsWithin (length names) new → AreKept names (pairs ++ kept_pair new w)
kept_more names pairs new w kept in' = record { apart = kept.apart; within = All-append (IsWithin (length names)) pairs (kept_pair new w) kept.within (within_kept (length names) new w in') }

link_kept : (names : List (List ℕ)) (new : Pair) (link : Link) (w : Flow) → link_at names new ≡ link → links_at names (kept_pair new w) ≡ kept_link link w
link_kept names new link w e = grind arith

-- a link more: its names are put last where they are not there, and it takes the place of the one of its pair, unless it is both ways
module _ (names : List (List ℕ)) (pairs : List Pair) (kept : AreKept names pairs) (link : Link) (first second : List (List ℕ)) (is_first : first ≡ with_name link.a names) (is_second : second ≡ with_name link.b first)
    (a b : ℕ) (a_below : a < length first) (a_there : get_or first a [] ≡ link.a) (b_below : b < length second) (b_there : get_or second b [] ≡ link.b) where
  kept_first : AreKept first pairs
  kept_first = subst (λ (l : List (List ℕ)). AreKept l pairs) (sym is_first) (grown_kept names pairs kept link.a)

  kept_second : AreKept second pairs
  kept_second = subst (λ (l : List (List ℕ)). AreKept l pairs) (sym is_second) (grown_kept first pairs kept_first link.b)

  same_second : links_at second pairs ≡ links_at names pairs
  same_second = ap (λ (l : List (List ℕ)). links_at l pairs) is_second ∙ grown_same first pairs kept_first link.b ∙ ap (λ (l : List (List ℕ)). links_at l pairs) is_first ∙ grown_same names pairs kept link.a

  -- the first name stays where it is
  a_still : (a < length second) × (get_or second a [] ≡ link.a)
  a_still = let at = grown_at link.b first a a_below in (subst (λ (l : List (List ℕ)). a < length l) (sym is_second) at.0, ap (λ (l : List (List ℕ)). get_or l a []) is_second ∙ at.1 ∙ a_there)

  abbrev new : Pair
  new = record { a = a; b = b; flow = link.flow }

  abbrev others : List Pair
  others = filter (joins_others a b) pairs

  abbrev put : List Pair
  put = others ++ kept_pair new link.flow

  pub put_kept : AreKept second put
  put_kept = kept_more second others new link.flow (kept_filtered second pairs kept_second (joins_others a b)) (record { first = a_still.0; second = b_below })

  pub put_same : links_at second put ≡ links_beside link (links_at names pairs) ++ kept_link link link.flow
  put_same =
      map-append (link_at second) others (kept_pair new link.flow)
      ∙ ap (λ (l : List Link). l ++ links_at second (kept_pair new link.flow)) (sym (beside_there second pairs kept_second link a b a_still.0 b_below a_still.1 b_there) ∙ ap (λ (l : List Link). links_beside link l) same_second)
      ∙ ap (λ (l : List Link). links_beside link (links_at names pairs) ++ l) (link_kept second new link link.flow (same_link link.flow a_still.1 b_there))

-- what is left once a name is gone with its pairs, and the last one has taken its place
pub gone_there : (names : List (List ℕ)) (pairs : List Pair) → AreKept names pairs → (name : List ℕ) (g : ℕ) → position (bytes_eq name) names ≡ Some g
    → (left : List (List ℕ)) → IsSwapped names left g → (made : List Pair) → made ≡ map (renumbered (length left) g) (filter (is_off g) pairs)
    → AreKept left made × (links_at left made ≡ links_without name (links_at names pairs))
gone_there names pairs kept name g at left swapped made e =
    let others : List Pair = filter (is_off g) pairs in
    let still : AreKept names others = kept_filtered names pairs kept (is_off g) in
    let within : g < length names = place_within (bytes_eq name) names g at in
    let off : All (λ p. is_off g p ≡ true) others = filter_passes (is_off g) pairs in (
      subst (λ (l : List Pair). AreKept left l) (sym e) (forgotten_kept names others still left g swapped within off),
      ap (λ (l : List Pair). let r : List Link = links_at left l in r) e ∙ forgotten_same names others still left g swapped within off ∙ sym (without_there names pairs kept name g at),
    )
