pub mod Speech
pub mod Base
pub mod Described
pub mod Places
pub mod Apart
