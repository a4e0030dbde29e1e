pub mod Laws
pub mod Padding
pub mod Passes
