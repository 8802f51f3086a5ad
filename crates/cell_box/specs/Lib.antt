pub mod Cells
pub mod Often
pub mod Rows
