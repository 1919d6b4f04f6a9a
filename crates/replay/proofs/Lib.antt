pub mod ReplayLaws
pub mod ReportLaws
