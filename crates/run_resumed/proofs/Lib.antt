mod FaultLaws
pub mod HandedLaws
mod JournalLaws
mod PostLaws
mod TiedLaws
