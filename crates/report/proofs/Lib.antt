pub mod Ranges
pub mod Written
pub mod Bytes
pub mod Read
pub mod Whole
pub mod Lists
pub mod Holds
pub mod Latest
