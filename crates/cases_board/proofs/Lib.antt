pub mod Holding
pub mod Only
pub mod Preparing
