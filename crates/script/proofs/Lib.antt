pub mod Fours
pub mod Trips
