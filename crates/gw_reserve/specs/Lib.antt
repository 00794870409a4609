pub mod Ids
pub mod Owned
pub mod Owners
pub mod Reservations
pub mod ReservationView
pub mod Searches
pub use Rattle.gw_table.specs.Maps
pub use Rattle.gw_table.specs.Unused
