pub mod claims
pub mod Listing
pub mod Contacts
pub mod Laws
pub mod ListingLaws
pub mod Plain
pub mod Periods
pub mod ReadingLaws
