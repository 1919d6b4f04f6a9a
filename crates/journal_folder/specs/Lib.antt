pub mod FileName
pub mod Known
