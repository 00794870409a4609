pub mod Spots
pub mod Fits
pub mod Words
pub mod BracketFits
pub mod ReplyFits
pub mod PartFits
