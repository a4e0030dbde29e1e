pub mod Subscribers
pub mod Announcing
pub mod Forwarding
pub mod Laws
