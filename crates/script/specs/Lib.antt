pub mod Messages
pub mod Script
pub mod Writing
