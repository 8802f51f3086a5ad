pub mod BestOf
pub mod EndLaws
