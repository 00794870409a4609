-- What is left of the free identifiers, from an index of the cyclic order on.
use Rattle.std.specs.Prelude.{ℕ, ◌≤◌, List, map, drop, filter, is_none, refl}
use Rattle.std.specs.Coded.{Coded, code_by, coded×, coded_list, coded_ℕ}
use Rattle.gw_base.specs.declared.ids.CtxNum.{CtxNum}
use Rattle.gw_table.specs.Maps.{Maps, term, ctx}
use Rattle.gw_table.specs.Reserved.{slot_name}
use Rattle.gw_reserve.specs.declared.order.Order.{Order}
use Rattle.gw_reserve.specs.declared.order.Search.{Search}
use Rattle.gw_reserve.specs.declared.owners.Cursors.{Cursors}
use Rattle.gw_reserve.specs.Owners.{cyclic, number_of_index}

abbrev pub whole_order : Order → List ℕ
whole_order o = cyclic o.start o.limit

abbrev pub numbers_in_order : Order → List CtxNum
numbers_in_order o = map number_of_index (whole_order o)

abbrev pub numbers_from : Maps → Order → ℕ → List CtxNum
numbers_from m o next = filter (λ k. is_none (ctx m k)) (drop next (numbers_in_order o))

abbrev pub slots_from : Maps → Order → ℕ → List ℕ
slots_from m o next = filter (λ s. is_none (term m (slot_name s))) (drop next (whole_order o))

-- an order of at most so many, and a search in it
pub record IsSearch (most : ℕ) (o : Order) (s : Search) : Type 0 where
  pub start : o.start ≤ o.limit
  pub limit : o.limit ≤ most
  pub next : s.next ≤ o.limit
  pub cursor : s.cursor ≤ o.limit
