pub mod Around
pub mod Reach
pub mod Rooms
pub mod Tidings
