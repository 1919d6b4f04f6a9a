pub mod SideLaws
pub mod StreamLaws
pub mod CompareLaws
