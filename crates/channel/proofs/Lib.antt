pub mod Words
pub mod Rows
pub mod Turned
pub mod Held
pub mod Batches
