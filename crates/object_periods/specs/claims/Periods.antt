-- The time periods of blocks (chapters "Time Periods" and "Object Inheritance").
use Rattle.std.specs.Prelude.{◌≡◌, ℕ, List, [], length, map, filter_map, codes, unwrap_or, Option, None, Some, slice_get}
use Rattle.due_model.specs.declared.config.Dated.{Dated}
use Rattle.due_model.specs.declared.config.Period.{Period}
use Rattle.due_model.specs.declared.config.Range.{Range}
use Rattle.object_groups.specs.claims.Names.{numbers_of}
use Rattle.object_groups.specs.claims.Objects.{list_at, name_at, names_in, objects_in}
use Rattle.object_inheritance.specs.claims.DatedLines.{AreLines}
use Rattle.object_inheritance.specs.claims.Inherited.{value}
use Rattle.object_reader.specs.declared.block.Block.{Block}
use Rattle.object_reader.specs.declared.block.BlockKind.TheVariants.{TimePeriod}
use Rattle.object_values.specs.claims.DayRules.{day_named}
use Rattle.object_values.specs.declared.day_rules.DayName.{DayName}
use Rattle.object_values.specs.declared.day_rules.DayName.TheVariants.{Day, NoDay, Other}
use Rattle.object_values.specs.claims.Ranges.{ranges_in, weekdays}

-- the ranges of a day line; none where there is no line
abbrev pub line_ranges : Option (List ℕ) → List Range
line_ranges None = []
line_ranges (Some text) = unwrap_or (ranges_in text) []

-- the ranges that the block at the place has for a weekday, by its own line or by that of a template
abbrev pub ranges_at : List Block → ℕ → List ℕ → List Range
ranges_at blocks place weekday = line_ranges (value blocks weekday place)

-- the dated line of a name and a text; none where the name says no day
abbrev pub dated_by : DayName → List Range → Option Dated
dated_by (Day rule) ranges = Some (record { day = rule; ranges = ranges })
dated_by NoDay ranges = None
dated_by Other ranges = None

abbrev pub dated_in : List ℕ × List ℕ → Option Dated
dated_in line = dated_by (day_named line.0) (line_ranges (Some line.1))

-- the dated lines of the block at the place, by its own lines of dates and those of templates, each name once
abbrev pub AreDatedOf : List Block → ℕ → List Dated → Type 0
AreDatedOf blocks place dated = (lines : List (List ℕ × List ℕ))
    × AreLines blocks place lines × (dated ≡ filter_map dated_in lines)

-- The numbers of the periods that the block at the place excludes, in the order of its list. `*` is a
-- name there.
abbrev pub excluded_at : List Block → ℕ → List ℕ
excluded_at blocks place =
    numbers_of (names_in blocks TimePeriod) (list_at blocks (codes "exclude") place)

-- The period of the block at the place: its name, its ranges by weekdays from Sunday on, its dated lines, and the
-- periods that it excludes.
pub record IsPeriodOf (blocks : List Block) (place : ℕ) (period : Period) : Type 0 where
  pub name : period.name ≡ name_at blocks TimePeriod place
  pub days : period.days ≡ map (ranges_at blocks place) weekdays
  pub dated : AreDatedOf blocks place period.dated
  pub excludes : map (λ excluded. excluded.0) period.excludes ≡ excluded_at blocks place

-- The periods of the blocks: those of the registered blocks, in file order.
pub record ArePeriodsOf (blocks : List Block) (periods : List Period) : Type 0 where
  pub count : length periods ≡ length (objects_in blocks TimePeriod)
  pub each : (number place : ℕ) (period : Period)
      → slice_get (objects_in blocks TimePeriod) number ≡ Some place
      → slice_get periods number ≡ Some period → IsPeriodOf blocks place period
