pub mod Examples
pub mod CheckLemmas
pub mod JobLemmas
pub mod LawLemmas
