pub mod CompareLaws
mod DoubtLaws
mod GivenLaws
mod LeftLaws
mod TallyLaws
