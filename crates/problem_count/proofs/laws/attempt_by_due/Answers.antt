use Rattle.problem_count.proofs.AttemptLaws.{outcomes_are_by_due, clock_attempts_by_due, problems_run, repeats_run}
use Rattle.problem_count.proofs.laws.attempt_by_due.Goals as goal

pub returns-clause-outcomes : goal.returns-clause-outcomes
returns-clause-outcomes c = outcomes_are_by_due

pub returns-clause-clock : goal.returns-clause-clock
returns-clause-clock c = clock_attempts_by_due

pub returns-clause-runs : goal.returns-clause-runs
returns-clause-runs c = problems_run

pub returns-clause-repeats : goal.returns-clause-repeats
returns-clause-repeats c = repeats_run
