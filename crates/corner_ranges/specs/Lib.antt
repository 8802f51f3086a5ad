pub mod Ranges
pub mod Visits
