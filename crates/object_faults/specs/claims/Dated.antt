-- Lines of dates in time periods (chapter "Time Periods", "Time Range Exceptions"): which are none.
use Rattle.std.specs.Prelude.{ℕ, Bool, true, false, not, ◌||◌, ◌&&◌, List, map}
use Rattle.std.specs.List.{flat_map, list_any}
use Rattle.std.specs.Option.{option_map_or}
use Rattle.object_inheritance.specs.claims.DatedLines.{dated_line}
use Rattle.object_inheritance.specs.claims.Inherited.{value}
use Rattle.object_reader.specs.declared.block.Block.{Block}
use Rattle.object_values.specs.claims.DayRules.{day_named}
use Rattle.object_values.specs.declared.day_rules.DayName.{DayName}
use Rattle.object_values.specs.declared.day_rules.DayName.TheVariants.{Day, NoDay, Other}
use Rattle.object_values.specs.claims.Ranges.{are_ranges, is_colon}

abbrev pub has_colon : List ℕ → Bool
has_colon text = list_any is_colon text

-- whether a line has a word with a colon, which may be its name
abbrev pub has_time : (name text : List ℕ) → Bool
has_time name text = has_colon name || has_colon text

-- whether the days have a number that none has, or are days and the text isn't ranges
abbrev pub is_bad_day : DayName → (text : List ℕ) → Bool
is_bad_day (Day rule) text = not (are_ranges text)
is_bad_day NoDay text = true
is_bad_day Other text = false

abbrev pub is_other_day : DayName → Bool
is_other_day (Day rule) = false
is_other_day NoDay = false
is_other_day Other = true

-- whether a line of dates has no word with a colon, a number that no day has, or a text that isn't ranges
abbrev pub is_bad_line : (name text : List ℕ) → Bool
is_bad_line name text = not (has_time name text) || is_bad_day (day_named name) text

-- whether it has such a word, and its name says something other than a day, as a range of days
abbrev pub is_other_line : (name text : List ℕ) → Bool
is_other_line name text = has_time name text && is_other_day (day_named name)

-- the names of all directives
abbrev pub directive_names : List Block → List (List ℕ)
directive_names blocks =
    flat_map (λ block. map (λ directive. directive.name) block.directives) blocks

-- whether the block at the place has, by itself or by a template, a line of dates of that name that passes
abbrev pub has_line : (List ℕ → List ℕ → Bool) → List Block → ℕ → List ℕ → Bool
has_line passes blocks place name =
    option_map_or (passes name) (dated_line name (value blocks name place)) false

abbrev pub has_bad_line : List Block → ℕ → Bool
has_bad_line blocks place = list_any (has_line is_bad_line blocks place) (directive_names blocks)

abbrev pub has_other_line : List Block → ℕ → Bool
has_other_line blocks place = list_any (has_line is_other_line blocks place) (directive_names blocks)
