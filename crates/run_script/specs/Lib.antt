pub mod Kinds
pub mod Faults
pub mod Outcome
pub mod Scripts
pub mod Jobs
pub mod Checking
pub mod Turns
pub mod Asks
