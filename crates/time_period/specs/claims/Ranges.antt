-- The ranges of a day.
use Rattle.std.specs.Prelude.{ℕ, Bool, List}
use Rattle.std.specs.List.{list_any}
use Rattle.due_model.specs.declared.config.Range.{Range}
use Rattle.due_model.specs.claims.Periods.{in_range}

-- some range holds the second
abbrev pub in_ranges : List Range → ℕ → Bool
in_ranges ranges second = list_any (in_range second) ranges
