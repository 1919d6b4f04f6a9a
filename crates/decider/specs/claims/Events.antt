-- What is read to decide an event, and the event and the past that it is of.
use Rattle.std.specs.Prelude.{◌≡◌, ℕ, List, length}
use Rattle.due_model.specs.declared.config.Config.{Config}
use Rattle.time_period.specs.claims.Days.{AreCompiled, Worked}

-- what is worked out of a configuration once
pub record TableValues : Type 0 where
  pub periods : List Worked
  -- among so many objects the search of dependencies goes
  pub searched : ℕ

-- it is worked out of this one
pub record AreTables (c : Config) (tables : TableValues) : Type 0 where
  pub compiled : AreCompiled c tables.periods
  pub searched : tables.searched ≡ length c.objects
