-- When a problem began, and since when its first delay runs.
use Rattle.std.proofs.Common.{ℕ, ◌≤◌, max, Bool, true, false, List, [], ◌∷◌, if◌then◌else◌, arith, All}
use Rattle.std.proofs.lemmas.List.Elements.{All-head, All-tail}
use Rattle.due_model.specs.declared.event.Event.{Event}
use Rattle.due_model.specs.claims.Changes.{delayed, delays}
use Rattle.due_model.specs.claims.Readings.{moment, begins}
use Rattle.due_model.specs.Readings.{began}
use Rattle.due_model.specs.declared.config.Config.{Config}
use Rattle.due_model.specs.claims.Proper.{IsProper}
use Rattle.due_model.specs.claims.Limits.{last_moment}

began-step : (m : ℕ) (b : Bool) (stamp old : ℕ) → old ≤ m → (if b then max m stamp else old) ≤ max m stamp
began-step m true stamp old h = omega arith
began-step m false stamp old h = omega arith

-- a problem began no later than now
pub began-le-moment : (o : ℕ) (past : List Event) → began o past ≤ moment past
began-le-moment o [] = omega arith
began-le-moment o (e ∷ past) = began-step (moment past) (begins o e past) e.moment (began o past) (began-le-moment o past)

-- the first delay runs since no later than now
pub delayed-le-moment : (c : Config) (o : ℕ) (past : List Event) → delayed c o past ≤ moment past
delayed-le-moment c o [] = omega arith
delayed-le-moment c o (e ∷ past) = began-step (moment past) (delays c o e past) e.moment (delayed c o past) (delayed-le-moment c o past)

pub moment_in_range : (c : Config) (past : List Event) → All (IsProper c) past → moment past ≤ last_moment
moment_in_range c [] h = omega arith
moment_in_range c (e ∷ past) h =
    omega (arith, (All-head (IsProper c) e past h).stamp, moment_in_range c past (All-tail (IsProper c) e past h))
