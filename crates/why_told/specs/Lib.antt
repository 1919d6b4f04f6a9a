pub mod Attempts
pub mod Places
pub mod Rows
pub mod Missing
pub mod Nothing
pub mod Why
pub mod Teller
pub mod Report
