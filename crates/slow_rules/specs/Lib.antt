pub mod Flags
pub mod Rounds
pub mod Escalated
pub mod Histories
pub mod Notices
pub mod Retries
