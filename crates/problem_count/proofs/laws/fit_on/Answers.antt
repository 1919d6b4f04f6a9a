use Rattle.problem_count.proofs.FitLaws.{other_events_fit, other_outcomes_fit, untouched_fit}
use Rattle.problem_count.proofs.laws.fit_on.Goals as goal

pub returns-clause-events : goal.returns-clause-events
returns-clause-events c = other_events_fit

pub returns-clause-outcomes : goal.returns-clause-outcomes
returns-clause-outcomes c = other_outcomes_fit

pub returns-clause-untouched : goal.returns-clause-untouched
returns-clause-untouched c = untouched_fit
