pub mod Clock
pub mod Changes
pub mod Given
