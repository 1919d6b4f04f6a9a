pub mod claims
pub mod Lines
pub mod CountedReader
pub mod LineReader
pub mod Text
