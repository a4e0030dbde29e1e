pub mod Fronts
pub mod Slots
pub mod Part
pub mod Kept
pub mod Gathered
pub mod Forwards
