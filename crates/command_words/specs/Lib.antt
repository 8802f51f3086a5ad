pub mod Words
pub mod Hops
