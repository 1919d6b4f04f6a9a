-- The class that decides on a day, and what its lines give.
use Rattle.std.specs.Prelude.{◌≡◌, ℕ, ◌≤◌, ◌⊎◌, ◌&&◌, ◌==◌, Bool, true, List, Contains}
use Rattle.std.specs.List.{list_any}
use Rattle.due_model.specs.declared.config.Dated.{Dated}
use Rattle.due_model.specs.claims.Days.{class_of, names_day}
use Rattle.due_model.specs.claims.Local.{Local}
use Rattle.time_period.specs.declared.decided.Decided.{Decided}
use Rattle.time_period.specs.claims.Ranges.{in_ranges}
use Rattle.time_period.specs.Stretches.{IsStretch}

-- the least class of the lines that pass; 6 where none does
pub record IsLeast (passes : Dated → Bool) (lines : List Dated) (class : ℕ) : Type 0 where
  pub low : (line : Dated) → Contains lines line → passes line ≡ true → class ≤ class_of line.day
  pub is : (class ≡ 6) ⊎ ((line : Dated) × Contains lines line × (passes line ≡ true)
      × (class_of line.day ≡ class))

-- some line of the class that names the local day holds the second
abbrev pub holds_by_class : (class : ℕ) → Local → List Dated → (second : ℕ) → Bool
holds_by_class class time lines second = list_any
    (λ line. (class_of line.day == class && names_day time line.day) && in_ranges line.ranges second) lines

-- the least class of the lines that name the local day, and a stretch of what those of that class hold
pub record IsDecided (time : Local) (lines : List Dated) (decided : Decided) : Type 0 where
  pub least : IsLeast (λ line. names_day time line.day) lines decided.class
  pub stretch : IsStretch (holds_by_class decided.class time lines) time.second decided.stretch
