pub mod Maximal
pub mod Sorted
pub mod Replay
pub mod Laws
pub mod Table
pub mod Rows
pub mod Entry
