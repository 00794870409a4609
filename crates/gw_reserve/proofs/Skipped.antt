-- Ranks that are passed by at once.
use Rattle.std.proofs.Common.{◌≡◌, ℕ, zero, suc, ◌+◌, ◌<◌, ◌≤◌, Bool, true, false, List, length, get_or, drop, filter, Option, is_some, refl, ap, ◌∙◌, arith}
use Rattle.std.specs.Prelude.{is_none}
use Rattle.std.proofs.lemmas.List.{get_or-map}
use Rattle.gw_base.specs.declared.ids.CtxNum.{CtxNum}
use Rattle.gw_table.specs.Maps.{Maps, term, ctx, number}
use Rattle.gw_table.specs.Reserved.{slot_name}
use Rattle.gw_reserve.specs.declared.order.Order.{Order}
use Rattle.gw_reserve.specs.Owners.{number_of_index}
use Rattle.gw_reserve.specs.Searches.{whole_order, numbers_in_order, numbers_from, slots_from}
use Rattle.gw_reserve.proofs.Choices.{passed}
use Rattle.gw_reserve.proofs.Orders.{length-whole_order, length-numbers_in_order}

-- what is passed by leaves the rest as it is
all_passed : {X : Type 0} (test : X → Bool) (l : List X) (d : X) (rank n : ℕ) → rank + n ≤ length l → ((k : ℕ) → k < n → test (get_or l (rank + k) d) ≡ false) → filter test (drop (rank + n) l) ≡ filter test (drop rank l)
all_passed test l d rank zero h each = ap (λ (k : ℕ). filter test (drop k l)) (omega arith)
all_passed test l d rank (suc n) h each =
    ap (λ (k : ℕ). filter test (drop k l)) (omega arith)
    ∙ passed test l (filter test (drop rank l)) (rank + n) (get_or l (rank + n) d) d (omega arith) refl (each n (omega arith)) (all_passed test l d rank n (omega arith) (λ k s. each k (omega arith)))

there : {A : Type 0} (o : Option A) → is_some o ≡ true → is_none o ≡ false
there o h = grind arith

module _ (m : Maps) (o : Order) (start : o.start ≤ o.limit) (rank from n : ℕ) (inside : rank + n ≤ o.limit) (rising : (k : ℕ) → k < n → get_or (whole_order o) (rank + k) 0 ≡ from + k) where
  pub numbers_passed : ((k : ℕ) → k < n → is_some (ctx m (number (from + k + 1))) ≡ true) → numbers_from m o (rank + n) ≡ numbers_from m o rank
  numbers_passed taken = all_passed (λ k. is_none (ctx m k)) (numbers_in_order o) (number 0) rank n (omega (arith, length-numbers_in_order o start)) (λ k s.
      let at : get_or (numbers_in_order o) (rank + k) (number 0) ≡ number_of_index (from + k) =
      get_or-map number_of_index (whole_order o) (rank + k) 0 (number 0) (omega (arith, length-whole_order o start)) ∙ ap number_of_index (rising k s) in
      ap (λ (x : CtxNum). is_none (ctx m x)) at ∙ there (ctx m (number_of_index (from + k))) (taken k s))

  pub slots_passed : ((k : ℕ) → k < n → is_some (term m (slot_name (from + k))) ≡ true) → slots_from m o (rank + n) ≡ slots_from m o rank
  slots_passed taken = all_passed (λ s. is_none (term m (slot_name s))) (whole_order o) 0 rank n (omega (arith, length-whole_order o start))
      (λ k s. ap (λ (x : ℕ). is_none (term m (slot_name x))) (rising k s) ∙ there (term m (slot_name (from + k))) (taken k s))
