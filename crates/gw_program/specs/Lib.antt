pub mod Commands
pub mod Faults
pub mod Forms
pub mod Jobs
pub mod Outcomes
pub mod Standings
pub mod Start
pub mod Words
