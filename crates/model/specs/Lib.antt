pub mod Tree
pub mod Model
pub mod Promise
pub mod Promises
pub mod Invariant
pub mod Example
pub mod Turn
