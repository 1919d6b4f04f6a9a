mod LoggedLaws
mod ReportLaws
