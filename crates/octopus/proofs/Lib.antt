pub mod Known
mod Headline
pub mod OpenLaws
mod DemoLemmas
mod PartLemmas
