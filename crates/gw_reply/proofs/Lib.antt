mod ActionWriters
mod Digits
pub mod Framed
pub mod Joins
pub mod TextLengths
pub mod Writers
