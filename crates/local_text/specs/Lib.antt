pub mod Calendar
pub mod Text
