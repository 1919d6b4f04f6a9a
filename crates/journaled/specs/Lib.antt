pub mod Claims
pub mod Hands
pub mod HandsLaws
pub mod Memory
pub mod Places
pub mod Runs
pub mod Wrapped
