-- How long the orders are.
use Rattle.std.proofs.Common.{◌≡◌, ◌≤◌, length, ◌∙◌}
use Rattle.std.proofs.lemmas.List.{length-map}
use Rattle.gw_reserve.specs.declared.order.Order.{Order}
use Rattle.gw_reserve.specs.Owners.{number_of_index}
use Rattle.gw_reserve.specs.Searches.{whole_order, numbers_in_order}
use Rattle.gw_reserve.proofs.Cyclic.{length-cyclic}

pub length-whole_order : (o : Order) → o.start ≤ o.limit → length (whole_order o) ≡ o.limit
length-whole_order o h = length-cyclic o.start o.limit h

pub length-numbers_in_order : (o : Order) → o.start ≤ o.limit → length (numbers_in_order o) ≡ o.limit
length-numbers_in_order o h = length-map (whole_order o) number_of_index ∙ length-whole_order o h
