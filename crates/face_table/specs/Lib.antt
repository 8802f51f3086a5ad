pub mod Tally
pub mod Corner
pub mod Known
