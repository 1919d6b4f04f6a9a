pub mod CountLaws
pub mod FilterLaws
pub mod KeptLaws
