pub mod Marks
pub mod Pieces
pub mod Ranges
pub mod ReadLines
pub mod Fronts
