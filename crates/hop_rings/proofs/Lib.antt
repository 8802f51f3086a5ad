pub mod Options
pub mod PathLaws
pub mod RingLists
pub mod Spreading
pub mod Trails
