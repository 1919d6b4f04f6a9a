pub mod claims
pub mod Lanes
pub mod Contacts
pub mod Marks
pub mod Laws
