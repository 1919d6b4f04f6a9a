pub mod claims
pub mod Blocks
pub mod Limits
pub mod Laws
pub mod Alike
pub mod Numbers
pub mod HostLaws
