pub mod Passed
pub mod Arrivals
pub mod Counted
