use Rattle.std.proofs.Common.{◌≡◌, ◌-◌, ◌<◌, length, Some}
use Rattle.due_model.specs.declared.config.Config.{Config}
use Rattle.due_model.specs.declared.config.PeriodId.{PeriodId}
use Rattle.due_model.specs.claims.Limits.{max_periods}
use Rattle.due_model.specs.claims.Periods.{in_period}
use Rattle.time_period.specs.claims.Days.{IsCompiled}
use Rattle.time_period.specs.Walks.{HasCome}
use Rattle.time_period.proofs.compiled.Compiled.next_by.Given as goal

abbrev pub invariant-loop-at : goal.invariant-loop-at
invariant-loop-at l = record {
  come : (c : Config) (period : PeriodId) → IsCompiled c period l.self → HasCome (in_period c l.zone (Some period)) l.t l.at;
  flags : 0 < length l.self.steps → length l.flags ≡ max_periods;
}

abbrev pub decreases-loop-at : goal.decreases-loop-at
decreases-loop-at l = l.end - l.at
