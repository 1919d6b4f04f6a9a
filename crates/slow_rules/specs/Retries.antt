-- When a problem is attempted again by the clock.
use Rattle.std.specs.Prelude.{ℕ, ◌≤◌, Option}
use Rattle.due_model.specs.declared.config.Config.{Config}
use Rattle.due_model.specs.declared.config.Object.{Object}
use Rattle.due_model.specs.declared.zone.Zone.{Zone}
use Rattle.due_model.specs.claims.Limits.{last_moment}
use Rattle.due_model.specs.claims.Periods.{next_in}
use Rattle.slow_rules.specs.declared.histories.Retry.{Retry}
use Rattle.slow_rules.specs.declared.histories.Retry.TheVariants.{At, InPeriod}

-- the moment; none is never
abbrev pub retry_moment : Config → Zone → Object → Retry → Option ℕ
retry_moment c zone object (At moment) = moment
retry_moment c zone object (InPeriod moment) = next_in c zone object.period moment

-- a moment from which the period is looked for is within its limit
abbrev pub IsRetryInRange : Retry → Type 0
IsRetryInRange (At moment) = Unit {0}
IsRetryInRange (InPeriod moment) = moment ≤ last_moment
