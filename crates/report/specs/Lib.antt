pub mod Report
pub mod ByAnswers
pub mod Printed
pub mod Headline
pub mod Last
