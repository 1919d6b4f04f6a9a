pub mod Shapes
pub mod Titles
pub mod Rows
pub mod Frame
pub mod Picture
