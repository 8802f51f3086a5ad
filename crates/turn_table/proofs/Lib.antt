pub mod Basics
pub mod Views
pub mod TurnSteps
pub mod WordSteps
pub mod SeatSteps
pub mod Ends
pub mod Standings
pub mod Seating
