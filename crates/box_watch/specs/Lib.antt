pub mod Corners
pub mod Lists
pub mod Priors
pub mod Watches
pub mod Own
pub mod Replay
pub mod Chain
pub mod WatchText
