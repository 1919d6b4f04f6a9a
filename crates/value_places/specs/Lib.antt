pub mod Lines
pub mod Origins
pub mod Questions
pub mod Places
