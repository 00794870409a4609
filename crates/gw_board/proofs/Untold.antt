-- Keys that cannot be told while entries are out: they are no others than those that are out, or that lead to such.
use Rattle.std.proofs.Common.{◌≡◌, ℕ, Bool, true, false, cond, not, List, [], ◌∷◌, ◌++◌, Option, None, Some, is_some, refl, sym, ap, subst, ◌∙◌, ◌⊎◌, inl, inr}
use Rattle.std.specs.Prelude.{◌||◌}
use Rattle.std.specs.List.{filter}
use Rattle.gw_base.specs.declared.ids.CtxNum.{CtxNum}
use Rattle.gw_base.specs.declared.key.Key.{Key}
use Rattle.gw_base.specs.declared.key.Key.TheVariants.{Term, Ctx, Whole}
use Rattle.gw_base.specs.Keys.{has, same_key, AreApart}
use Rattle.gw_base.specs.NameLists.{is_in}
use Rattle.gw_base.proofs.Booleans.{refuted}
use Rattle.gw_base.proofs.KeyTests.{any-append_left, any-append_right}
use Rattle.gw_base.proofs.NamesInLists.{or_left, or_right, or_cases, either}
use Rattle.gw_term.specs.declared.record.Termination.{Termination}
use Rattle.gw_table.specs.Maps.{Maps, term, ctx, place_of, members_of}
use Rattle.gw_table.specs.Parts.{Only, Holds, cut}
use Rattle.gw_table.specs.WellFormed.{AreWellFormed}
use Rattle.gw_table.proofs.Growth.{Grows}
use Rattle.gw_table.proofs.KeyOrder.{same_key_is}
use Rattle.gw_table.proofs.PartLookups.{term-cut, ctx-cut}
use Rattle.gw_cmd.specs.Keys.{every_key}
use Rattle.gw_cmd.proofs.Ready.{every_term, every_ctx, named}
use Rattle.gw_reserve.specs.Owned.{paired}
use Rattle.gw_foot.proofs.AfterAnother.{held_after}
use Rattle.gw_board.specs.Carried.{BurstRequest, keys_of}
use Rattle.gw_board.proofs.Leading.{Leads, there_is}
use Rattle.gw_board.proofs.Outs.{Clear}

-- ---- keys that pass a test

has_passed : (p : Key → Bool) (keys : List Key) (k : Key) → has keys k ≡ true → p k ≡ true → has (filter p keys) k ≡ true
has_passed p [] k h e = absurd cc
has_passed p (x ∷ xs) k h e = by (p x) refl (or_cases (same_key k x) (has xs k) h) (λ i. has_passed p xs k i e)
  where
    by : (b : Bool) → p x ≡ b → (same_key k x ≡ true) ⊎ (has xs k ≡ true) → (has xs k ≡ true → has (filter p xs) k ≡ true) → has (cond b (x ∷ filter p xs) (filter p xs)) k ≡ true
    by true f (inl i) g = or_left (same_key k x) (has (filter p xs) k) i
    by true f (inr i) g = or_right (same_key k x) (has (filter p xs) k) (g i)
    by false f (inl i) g = absurd (let clash : true ≡ false = sym e ∙ ap p (same_key_is k x i) ∙ f in cc)
    by false f (inr i) g = g i

passed : (p : Key → Bool) (keys : List Key) (k : Key) → has (filter p keys) k ≡ true → p k ≡ true
passed p [] k h = absurd cc
passed p (x ∷ xs) k h = by (p x) refl h (passed p xs k)
  where
    by : (b : Bool) → p x ≡ b → has (cond b (x ∷ filter p xs) (filter p xs)) k ≡ true → (has (filter p xs) k ≡ true → p k ≡ true) → p k ≡ true
    by true f i g = either (or_cases (same_key k x) (has (filter p xs) k) i) (λ j. ap p (same_key_is k x j) ∙ f) g
    by false f i g = g i

is_placed : (o : Option Termination) (c : CtxNum) → place_of o ≡ Some c → is_some o ≡ true
is_placed None c e = absurd cc
is_placed (Some r) c e = refl

-- ---- keys that are told to be apart while entries are out that are none of theirs

module _ (limit : ℕ) (a : BurstRequest) (keys o : List Key) (m : Maps) (w : AreWellFormed limit m) (mine : Leads keys m) (others : Leads o m) (clear : Clear keys o) (apart : AreApart (keys_of a (cut o m)) keys) where
  -- not the whole, and none of the keys
  abbrev is_other : Key → Bool
  is_other k = not (has (Whole ∷ keys) k)

  abbrev all : List Key
  all = keys_of a (cut o m) ++ every_key m

  -- all other keys that there are
  abbrev rest : List Key
  rest = filter is_other all

  other_term : (t : List ℕ) → has keys (Term t) ≡ false → has all (Term t) ≡ true → has rest (Term t) ≡ true
  other_term t h i = has_passed is_other all (Term t) i (ap (λ b. not b) h)

  other_ctx : (c : CtxNum) → has keys (Ctx c) ≡ false → has all (Ctx c) ≡ true → has rest (Ctx c) ≡ true
  other_ctx c h i = has_passed is_other all (Ctx c) i (ap (λ b. not b) h)

  -- what is out is none of the keys
  not_mine : (c : CtxNum) → has o (Ctx c) ≡ true → has keys (Ctx c) ≡ false
  not_mine c h = refuted (has keys (Ctx c)) (λ i. let clash : true ≡ false = sym h ∙ clear.none (Ctx c) i in cc)

  new_place : (t : List ℕ) (c : CtxNum) (b : Bool) → has o (Term t) ≡ b → place_of (term m t) ≡ Some c → (place_of (cond b None (term m t)) ≡ Some c) ⊎ (has rest (Ctx c) ≡ true)
  new_place t c false e p = inl p
  new_place t c true e p = inr (other_ctx c (not_mine c (others t c e p)) (any-append_right (same_key (Ctx c)) (keys_of a (cut o m)) (every_key m) (every_ctx m c (there_is (ctx m c) t (w.listed t c p)))))

  new_member : (c : CtxNum) (t : List ℕ) (b : Bool) → has o (Ctx c) ≡ b → is_in t (members_of (ctx m c)) ≡ true → (is_in t (members_of (cond b None (ctx m c))) ≡ true) ⊎ (has rest (Term t) ≡ true)
  new_member c t false e i = inl i
  new_member c t true e i =
      let placed : place_of (term m t) ≡ Some c = w.recorded t c i in
      inr (other_term t
      (refuted (has keys (Term t)) (λ j. let clash : true ≡ false = sym (mine t c j placed) ∙ not_mine c e in cc))
      (any-append_right (same_key (Term t)) (keys_of a (cut o m)) (every_key m) (every_term m t (named m t (is_placed (term m t) c placed)))))

  grows : Grows (Only rest) (cut o m) m
  grows = record {
    places = λ t c e. subst (λ (x : Option Termination). (place_of x ≡ Some c) ⊎ (has rest (Ctx c) ≡ true)) (sym (term-cut o m t)) (new_place t c (has o (Term t)) refl e);
    members = λ c t i. subst (λ x. (is_in t (members_of x) ≡ true) ⊎ (has rest (Term t) ≡ true)) (sym (ctx-cut o m c)) (new_member c t (has o (Ctx c)) refl i);
  }

  limited_text : (k : Key) → has (keys_of a (cut o m)) k ≡ true → has rest k ≡ true
  limited_text (Term t) h = other_term t (apart.keys (Term t) h) (any-append_left (same_key (Term t)) (keys_of a (cut o m)) (every_key m) h)
  limited_text (Ctx c) h = other_ctx c (apart.keys (Ctx c) h) (any-append_left (same_key (Ctx c)) (keys_of a (cut o m)) (every_key m) h)
  limited_text Whole h = absurd (let clash : true ≡ false = sym h ∙ apart.whole_a in cc)

  no_whole : has rest Whole ≡ true → ⊥
  no_whole h = let clash : false ≡ true = passed is_other all Whole h in cc

  held : Holds (Only rest) (keys_of a m)
  held = held_after rest (paired a.request a.owned) (cut o m) m limited_text (λ h. absurd (no_whole h)) grows

  other_than : (b c : Bool) → not (b || c) ≡ true → c ≡ false
  other_than true c h = absurd cc
  other_than false true h = absurd cc
  other_than false false h = refl

  pub still_apart : AreApart (keys_of a m) keys
  still_apart = record {
    keys = λ k h. other_than (same_key k Whole) (has keys k) (passed is_other all k (held k h));
    whole_a = refuted (has (keys_of a m) Whole) (λ h. no_whole (held Whole h));
    whole_b = apart.whole_b;
  }
