use Rattle.std.proofs.Common.{subst}
use Rattle.due_model.specs.claims.Local.{Local}
use Rattle.day_rules.specs.Dates.{shown}
use Rattle.time_period.specs.claims.Days.{worked_holds}
use Rattle.time_period.specs.Flags.{flag_at}
use Rattle.time_period.specs.Steps.{at_second}
use Rattle.time_period.specs.Stretches.{Stays}
use Rattle.time_period.proofs.StepLemmas.{stretch-by}
use Rattle.time_period.proofs.compiled.Compiled.stretch_by.Goals as goal

pub returns-clause-stretch : goal.returns-clause-stretch
returns-clause-stretch c =
    let worked = c.args.self.now in
    let before = flag_at c.args.flags.now in
    subst (λ (t : Local). Stays (λ k. worked_holds worked before (at_second t k)) t.second c.run_steps.result.holds c.run_steps.result.end) c.on_calendar.ensures
    (stretch-by worked before (shown c.on_calendar.result) c.run_steps.result.end c.run_steps.result.holds c.requires.some c.run_steps.ensures.later c.run_steps.ensures.holds c.run_steps.ensures.steady)
