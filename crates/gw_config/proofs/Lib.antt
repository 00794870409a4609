pub mod FirstLines
pub mod Partway
pub mod Values
