pub mod RangeLemmas
pub mod VisitLemmas
