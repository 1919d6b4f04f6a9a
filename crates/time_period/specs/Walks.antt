-- How far a walk to the next moment has come.
use Rattle.std.specs.Prelude.{◌≡◌, ℕ, ◌+◌, ◌-◌, ◌≤◌, Bool}
use Rattle.due_model.specs.claims.Periods.{first_passing, reach_of_next}

-- what is looked for from t on is what is left to be looked for from `at` on
pub record HasCome (passes : ℕ → Bool) (t at : ℕ) : Type 0 where
  pub low : t ≤ at
  pub left : first_passing passes (reach_of_next + 1) t
      ≡ first_passing passes (t + (reach_of_next + 1) - at) at
