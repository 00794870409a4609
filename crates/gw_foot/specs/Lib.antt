pub mod Gathered
pub mod Meets
pub mod OwnsUnused
pub mod PartOf
pub use Rattle.gw_tx.specs.Footprints
pub use Rattle.gw_table.specs.KeyLists
pub use Rattle.gw_tx.specs.Transactions
pub use Rattle.gw_table.specs.Locality
