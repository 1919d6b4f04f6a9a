-- The ranges of a day.
use Rattle.std.specs.Prelude.{◌<◌, ◌≤◌, List, All, AllPairs}
use Rattle.due_model.specs.declared.config.Range.{Range}
use Rattle.due_model.specs.claims.Limits.{day}

-- ranges that aren't empty, one after the other with a gap between them, within the day
pub record IsDay (ranges : List Range) : Type 0 where
  pub some : All (λ r. r.start < r.end) ranges
  pub apart : AllPairs (λ a b. a.end < b.start) ranges
  pub within : All (λ r. r.end ≤ day) ranges
