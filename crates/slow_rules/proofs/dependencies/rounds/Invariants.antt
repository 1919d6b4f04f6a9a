use Rattle.std.proofs.Common.{ℕ}
use Rattle.due_model.specs.declared.zone.Zone.{Zone}
use Rattle.slow_rules.specs.Rounds.{AreObjectFlags, ArePeriodsAt, state_of}
use Rattle.slow_rules.proofs.dependencies.rounds.Given as goal

abbrev pub invariant-loop-round : goal.invariant-loop-round
invariant-loop-round l = (zone : Zone) (t : ℕ) → ArePeriodsAt l.config zone t l.periods → AreObjectFlags l._round l.config zone (state_of l.states) t l.flags.items
