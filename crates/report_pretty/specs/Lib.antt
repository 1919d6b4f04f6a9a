pub mod Pretty
pub mod Teller
