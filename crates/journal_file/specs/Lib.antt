pub mod Kills
pub mod Text
pub mod TextLaws
