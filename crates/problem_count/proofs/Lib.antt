mod FitLaws
mod AttemptLaws
