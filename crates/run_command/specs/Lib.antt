pub mod claims
pub mod Report
pub mod Logged
pub mod LoggedLaws
