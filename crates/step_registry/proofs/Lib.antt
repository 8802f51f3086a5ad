pub mod KeptSteps
pub mod Drives
pub mod HeldLaws
