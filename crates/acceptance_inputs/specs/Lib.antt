pub mod Ladder
pub mod Tables
