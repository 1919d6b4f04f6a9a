pub mod TextFaults
pub mod PairLaws
