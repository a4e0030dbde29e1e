pub mod Message
pub mod Ring
pub mod Batch
pub mod Laws
