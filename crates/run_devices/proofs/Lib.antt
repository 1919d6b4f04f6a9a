mod LoggedLaws
mod PostLaws
mod PauseLaws
