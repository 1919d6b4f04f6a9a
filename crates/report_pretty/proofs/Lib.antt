pub mod PrettyLaws
