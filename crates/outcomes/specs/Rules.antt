-- What is worked out of a configuration.
use Rattle.due_model.specs.claims.Accepted.{IsAccepted}
use Rattle.outcomes.specs.declared.rules.Rules.{Rules}
use Rattle.time_period.specs.claims.Days.{AreCompiled}

-- the configuration is accepted, and what is worked out is of it
pub record AreRules (r : Rules) : Type 0 where
  pub accepted : IsAccepted r.config.now
  pub compiled : AreCompiled r.config.now r.periods.now
