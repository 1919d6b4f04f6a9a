pub mod claims
pub mod Order
pub mod Made
pub mod Told
pub mod Puts
pub mod Decided
pub mod Laws
