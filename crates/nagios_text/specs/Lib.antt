pub mod claims
