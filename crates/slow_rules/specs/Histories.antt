-- The ranges of the values that the histories of the slow program hold.
use Rattle.std.specs.Prelude.{ℕ, ◌*◌, ◌^◌, ◌≤◌}
use Rattle.due_model.specs.declared.notice.Outcome.{Outcome}
use Rattle.due_model.specs.declared.notice.Outcome.TheVariants.{Nothing, Sent, Suppressed}
use Rattle.due_model.specs.declared.rules.Last.{Last}
use Rattle.due_model.specs.claims.Limits.{last_moment}

-- no gap is longer, in seconds
abbrev pub longest_gap : ℕ
longest_gap = 60 * 2 ^ 32

-- the moment and the gap of an outcome are within their limits
abbrev pub IsInRange : Outcome → Type 0
IsInRange Nothing = Unit {0}
IsInRange (Sent k state number moment gap reach) = (moment ≤ last_moment) × (gap ≤ longest_gap)
IsInRange (Suppressed k state number moment why) = moment ≤ last_moment

-- the moment and the gap of a last notice are within their limits
pub record IsLastInRange (n : Last) : Type 0 where
  pub moment : n.moment ≤ last_moment
  pub gap : n.gap ≤ longest_gap
