-- Stretches in which a test stays what it is.
use Rattle.std.specs.Prelude.{◌≡◌, ℕ, ◌<◌, ◌≤◌, Bool}
use Rattle.time_period.specs.declared.stretch.Stretch.{Stretch}

-- from `from` on and before `end` the test gives `holds`
pub record Stays (test : ℕ → Bool) (from : ℕ) (holds : Bool) (end : ℕ) : Type 0 where
  pub later : from < end
  pub alike : (k : ℕ) → from ≤ k → k < end → test k ≡ holds

-- the same of a stretch of the day
abbrev pub IsStretch : (ℕ → Bool) → ℕ → Stretch → Type 0
IsStretch test from stretch = Stays test from stretch.holds stretch.end
