use Rattle.std.proofs.Common.{◌≡◌, map, Some}
use Rattle.std.specs.List.{range_with_len}
use Rattle.due_model.specs.claims.Periods.{in_period}
use Rattle.due_model.specs.declared.config.Config.{Config}
use Rattle.due_model.specs.declared.zone.Zone.TheVariants.{Utc}
use Rattle.object_warnings.specs.Hours.{moment_of}
use Rattle.time_period.specs.claims.Days.{AreCompiled}
use Rattle.object_warnings.proofs.week.flags_at.Given as goal

-- The flags so far.
abbrev pub invariant-loop-number : goal.invariant-loop-number
invariant-loop-number l = (c : Config) → AreCompiled c l.periods
    → l.flags.items ≡ map (λ number. in_period c Utc (Some (record { 0 = number })) (moment_of l.minute)) (range_with_len 0 l.number)
