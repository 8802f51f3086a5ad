pub mod PlanLaws
pub mod Played
