-- The ranges of a world's settings.
use Rattle.std.specs.Prelude.{ℕ, ◌≤◌}
use Rattle.due_model.specs.claims.Limits.{max_deciders}

-- There is at least one of each. A queue holds at most 1,024 notices, and a channel is tried at most 100 times with one letter.
pub record AreSettings (deciders queue tries : ℕ) : Type 0 where
  pub number : (1 ≤ deciders) × (deciders ≤ max_deciders)
  pub room : (1 ≤ queue) × (queue ≤ 1_024)
  pub attempts : (1 ≤ tries) × (tries ≤ 100)
