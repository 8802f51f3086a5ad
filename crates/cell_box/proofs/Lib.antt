pub mod RowLaws
pub mod Placing
pub mod Runs
pub mod Totals
