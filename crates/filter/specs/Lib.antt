pub mod Equal
pub mod Filter
pub mod Laws
