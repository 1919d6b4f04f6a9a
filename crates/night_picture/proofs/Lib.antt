pub mod EscapeLaws
pub mod TextLaws
