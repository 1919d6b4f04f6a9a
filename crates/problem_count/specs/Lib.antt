pub mod claims
pub mod Book
pub mod Fits
pub mod Laws
