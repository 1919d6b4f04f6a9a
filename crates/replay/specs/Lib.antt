pub mod claims
pub mod Replay
pub mod Report
