-- A reservation's fields, as contracts see them (own).
use Rattle.std.specs.Prelude.{drop}
use Rattle.gw_reserve.specs.declared.owners.Reservation.TheInside.{Inside}
use Rattle.gw_reserve.specs.Reservations.{Reserving}
use Rattle.gw_reserve.specs.Searches.{whole_order, numbers_in_order, IsSearch}

abbrev pub value_of : Inside → Reserving
value_of a = record {
  numbers = drop a.number_search.next (numbers_in_order a.numbers);
  slots = drop a.slot_search.next (whole_order a.slots);
  cursors = record { context = a.number_search.cursor; slot = a.slot_search.cursor };
  most_contexts = a.numbers.limit;
  most_slots = a.slots.limit;
}

-- the searches keep their limits
pub record IsReservation (a : Inside) : Type 0 where
  pub numbers : IsSearch 65535 a.numbers a.number_search
  pub slots : IsSearch 4096 a.slots a.slot_search
