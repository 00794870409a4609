-- A reservation on its way, as contracts see it (own): what was not looked at yet, in cyclic order from the cursors.
use Rattle.std.specs.Prelude.{ℕ, List, map, drop, filter, is_none, refl}
use Rattle.std.specs.Coded.{Coded, code_by, coded×, coded_list, coded_ℕ}
use Rattle.gw_base.specs.declared.ids.CtxNum.{CtxNum}
use Rattle.gw_table.specs.Maps.{Maps, number, term, ctx}
use Rattle.gw_table.specs.Reserved.{slot_name}
use Rattle.gw_reserve.specs.declared.owners.Cursors.{Cursors}
use Rattle.gw_reserve.specs.Owners.{cyclic, number_of_index}

-- the numbers and the slots that are yet to be looked at, where the next burst's search is to begin, and how many there
-- may be
pub record Reserving : Type 0 where
  pub numbers : List CtxNum
  pub slots : List ℕ
  pub cursors : Cursors
  pub most_contexts : ℕ
  pub most_slots : ℕ

-- what those before have left of the numbers and of the slots that are free in the tables
abbrev pub numbers_left : Maps → Reserving → List CtxNum
numbers_left m v = filter (λ k. is_none (ctx m k)) v.numbers

abbrev pub slots_left : Maps → Reserving → List ℕ
slots_left m v = filter (λ s. is_none (term m (slot_name s))) v.slots

-- before the first request
abbrev pub begun : ℕ → ℕ → Cursors → Reserving
begun contexts slots cursors = record {
  numbers = map number_of_index (cyclic cursors.context contexts);
  slots = cyclic cursors.slot slots;
  cursors = cursors;
  most_contexts = contexts;
  most_slots = slots;
}

-- by which values of models are distinguished
abbrev coded_number : Coded CtxNum
coded_number = code_by ℕ coded_ℕ (λ n. n.0) (λ k. number k) (λ _. refl)

abbrev coded_cursors : Coded Cursors
coded_cursors = code_by (ℕ × ℕ) (coded× coded_ℕ coded_ℕ) (λ c. (c.context, c.slot)) (λ p. record { context = p.0; slot = p.1 }) (λ _. refl)

abbrev pub coded_reserving : Coded Reserving
coded_reserving =
    code_by (List CtxNum × (List ℕ × (Cursors × (ℕ × ℕ)))) (coded× (coded_list coded_number) (coded× (coded_list coded_ℕ) (coded× coded_cursors (coded× coded_ℕ coded_ℕ))))
    (λ v. (v.numbers, (v.slots, (v.cursors, (v.most_contexts, v.most_slots)))))
    (λ p. record { numbers = p.0; slots = p.1.0; cursors = p.1.1.0; most_contexts = p.1.1.1.0; most_slots = p.1.1.1.1 }) (λ _. refl)
