pub mod Added
pub mod MakerView
