-- What requests own, one after another: that it is unused, and that it keeps the limits.
use Rattle.std.proofs.Common.{◌≡◌, ℕ, ◌+◌, ◌<◌, ◌≤◌, true, List, [], ◌∷◌, ◌++◌, length, get_or, take, drop, map, Option, None, Some, refl, sym, ap, subst, ◌∙◌, arith, get_or-take}
use Rattle.std.specs.Prelude.{◌≢◌, All, AllPairs, is_none}
use Rattle.std.proofs.lemmas.List.{length-take}
use Rattle.std.proofs.lemmas.List.Elements.{All-filter, filter_passes}
use Rattle.std.proofs.lemmas.List.Kept.{AllPairs-filter}
use Rattle.gw_base.specs.declared.ids.CtxNum.{CtxNum}
use Rattle.gw_msg.specs.declared.message.Request.{Request}
use Rattle.gw_table.specs.Maps.{Maps, term, ctx}
use Rattle.gw_table.specs.Reserved.{slot_name}
use Rattle.gw_table.specs.Unused.{AreUnused}
use Rattle.gw_reserve.specs.declared.owners.Cursors.{Cursors}
use Rattle.gw_reserve.specs.Owners.{cyclic, number_of_index, free_numbers, free_slots, number_choices, slot_choices, owners_of, owners, owned_numbers, owned_slots, AreFresh, AreWithin}
use Rattle.gw_reserve.proofs.Cyclic.{indices_below, indices_apart, numbers_within, numbers_apart}
use Rattle.gw_reserve.proofs.Choices.{owned_choices}
use Rattle.gw_reserve.proofs.Taken.{take-plus}

-- ---- all requests own the first ones

total : (Request → ℕ) → List Request → ℕ
total f [] = 0
total f (r ∷ rs) = f r + total f rs

numbers_are : (rs : List Request) (left : List CtxNum) (free : List ℕ) → owned_numbers (owners_of rs left free) ≡ take (total number_choices rs) left
unfolding total
numbers_are [] left free = refl
numbers_are (r ∷ rs) left free =
    ap (λ (l : List CtxNum). l ++ owned_numbers (owners_of rs (drop (number_choices r) left) (drop (slot_choices r) free))) (owned_choices (number_choices r) left)
    ∙ ap (λ (l : List CtxNum). take (number_choices r) left ++ l) (numbers_are rs (drop (number_choices r) left) (drop (slot_choices r) free))
    ∙ take-plus (number_choices r) (total number_choices rs) left

slots_are : (rs : List Request) (left : List CtxNum) (free : List ℕ) → owned_slots (owners_of rs left free) ≡ take (total slot_choices rs) free
unfolding total
slots_are [] left free = refl
slots_are (r ∷ rs) left free =
    ap (λ (l : List ℕ). l ++ owned_slots (owners_of rs (drop (number_choices r) left) (drop (slot_choices r) free))) (owned_choices (slot_choices r) free)
    ∙ ap (λ (l : List ℕ). take (slot_choices r) free ++ l) (slots_are rs (drop (number_choices r) left) (drop (slot_choices r) free))
    ∙ take-plus (slot_choices r) (total slot_choices rs) free

-- ---- so they are unused

module _ {X : Type 0} where
  all_taken : (P : X → Type 0) (k : ℕ) (l : List X) → All P l → All P (take k l)
  all_taken P k l a i d h = subst (λ (x : X). P x) (sym (get_or-take k l i d (omega (arith, length-take k l)))) (a i d (omega (arith, length-take k l)))

  pairs_taken : (k : ℕ) (l : List X) → AllPairs (λ x y. x ≢ y) l → AllPairs (λ x y. x ≢ y) (take k l)
  pairs_taken k l a i j d b h e =
      let small : j < k = omega (arith, length-take k l) in
      let inside : j < length l = omega (arith, length-take k l) in
      let less : i < k = omega arith in
      a i j d b inside (sym (get_or-take k l i d less) ∙ e ∙ get_or-take k l j d small)

  is_nothing : (o : Option X) → is_none o ≡ true → o ≡ None
  is_nothing None e = refl
  is_nothing (Some x) e = absurd cc

pub are_fresh : (m : Maps) (cursors : Cursors) (contexts slots : ℕ) (rs : List Request) → AreWithin contexts slots cursors → slots ≤ 4096 → AreFresh m contexts slots (owners m cursors contexts slots rs)
unfolding owners
are_fresh m cursors contexts slots rs w h =
    let numbers : List CtxNum = free_numbers m cursors.context contexts in
    let free : List ℕ = free_slots m cursors.slot slots in
    let n : owned_numbers (owners_of rs numbers free) ≡ take (total number_choices rs) numbers = numbers_are rs numbers free in
    let s : owned_slots (owners_of rs numbers free) ≡ take (total slot_choices rs) free = slots_are rs numbers free in
    let slots_below : All (λ x. x < slots) (owned_slots (owners_of rs numbers free)) = subst (λ (l : List ℕ). All (λ x. x < slots) l) (sym s) (all_taken (λ x. x < slots) (total slot_choices rs) free (All-filter (λ x. is_none (term m (slot_name x))) (λ x. x < slots) (cyclic cursors.slot slots) (indices_below cursors.slot slots w.slot))) in
    record {
      unused = record {
        numbers_apart = subst (λ (l : List CtxNum). AllPairs (λ x y. x ≢ y) l) (sym n) (pairs_taken (total number_choices rs) numbers (AllPairs-filter (λ x y. x ≢ y) (λ k. is_none (ctx m k)) (map number_of_index (cyclic cursors.context contexts)) (numbers_apart cursors.context contexts w.context)));
        no_contexts = subst (λ (l : List CtxNum). All (λ k. ctx m k ≡ None) l) (sym n) (all_taken (λ k. ctx m k ≡ None) (total number_choices rs) numbers (λ i d k. is_nothing (ctx m (get_or numbers i d)) (filter_passes (λ k. is_none (ctx m k)) (map number_of_index (cyclic cursors.context contexts)) i d k)));
        slots_apart = subst (λ (l : List ℕ). AllPairs (λ x y. x ≢ y) l) (sym s) (pairs_taken (total slot_choices rs) free (AllPairs-filter (λ x y. x ≢ y) (λ x. is_none (term m (slot_name x))) (cyclic cursors.slot slots) (indices_apart cursors.slot slots w.slot)));
        no_terminations = subst (λ (l : List ℕ). All (λ x. term m (slot_name x) ≡ None) l) (sym s) (all_taken (λ x. term m (slot_name x) ≡ None) (total slot_choices rs) free (λ i d k. is_nothing (term m (slot_name (get_or free i d))) (filter_passes (λ x. is_none (term m (slot_name x))) (cyclic cursors.slot slots) i d k)));
        slots_small = λ i d k. omega (arith, slots_below i d k);
      };
      numbers = subst (λ (l : List CtxNum). All (λ k. (0 < k.0) × (k.0 ≤ contexts)) l) (sym n) (all_taken (λ k. (0 < k.0) × (k.0 ≤ contexts)) (total number_choices rs) numbers (All-filter (λ k. is_none (ctx m k)) (λ k. (0 < k.0) × (k.0 ≤ contexts)) (map number_of_index (cyclic cursors.context contexts)) (numbers_within cursors.context contexts w.context)));
      slots = slots_below;
    }

-- the slots that are free at the start are unused
pub free_unused : (m : Maps) (d n : ℕ) → d ≤ n → n ≤ 4096 → AreUnused m [] (free_slots m d n)
free_unused m d n w h =
    let free : List ℕ = free_slots m d n in
    let below : All (λ x. x < n) free = All-filter (λ x. is_none (term m (slot_name x))) (λ x. x < n) (cyclic d n) (indices_below d n w) in
    record {
      numbers_apart = λ i j e a b. absurd (omega arith);
      no_contexts = λ i e a. absurd (omega arith);
      slots_apart = AllPairs-filter (λ x y. x ≢ y) (λ x. is_none (term m (slot_name x))) (cyclic d n) (indices_apart d n w);
      no_terminations = λ i e a. is_nothing (term m (slot_name (get_or free i e))) (filter_passes (λ x. is_none (term m (slot_name x))) (cyclic d n) i e a);
      slots_small = λ i e a. omega (arith, below i e a);
    }
