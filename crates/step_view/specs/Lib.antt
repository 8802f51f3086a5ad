pub mod StepView
pub mod Rows
