pub mod claims
pub mod Services
pub mod Listed
pub mod Reached
pub mod Laws
pub mod Alike
pub mod AlikeLaws
