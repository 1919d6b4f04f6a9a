pub mod HeardLaws
pub mod MadeLaws
pub mod PutLaws
pub mod ShareLaws
pub mod StandLaws
