pub mod KillLaws
pub mod WroteLaws
