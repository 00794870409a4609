pub mod Requested
pub mod Forms
pub mod Places
pub mod Targets
