pub mod Block
pub mod Listed
