pub mod BackLaws
pub mod CutLaws
pub mod ReadLaws
pub mod WriteLaws
