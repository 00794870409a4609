pub mod Contexts
pub mod Fitting
pub mod Places
