use Rattle.std.proofs.Common.{◌≡◌}
use Rattle.due_model.specs.declared.config.Config.{Config}
use Rattle.object_warnings.specs.Numbers.{numbers_where}
use Rattle.object_warnings.specs.Periods.{never_holds}
use Rattle.time_period.specs.claims.Days.{AreCompiled}
use Rattle.object_warnings.proofs.periods.never.Given as goal

-- Those so far.
abbrev pub invariant-loop-number : goal.invariant-loop-number
invariant-loop-number l = (c : Config) → AreCompiled c l.periods → l.found.items ≡ numbers_where (never_holds c l.zone l.t) l.number
