pub mod claims
pub mod Settings
pub mod Own
pub mod Laws
pub mod ObjectLaws
