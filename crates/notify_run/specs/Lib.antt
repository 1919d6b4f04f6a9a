pub mod Choices
pub mod Refusal
pub mod Zones
pub mod Shown
pub mod Times
