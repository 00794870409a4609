pub mod Draws
pub mod Answers
pub mod Runs
