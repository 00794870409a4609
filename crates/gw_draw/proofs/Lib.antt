pub mod Sums
pub mod Rule
pub mod Places
pub mod Joined
pub mod Runs
