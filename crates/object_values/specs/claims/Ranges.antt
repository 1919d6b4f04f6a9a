-- The day lines of a time period (chapter "Time Periods").
use Rattle.std.specs.Prelude.{suc, ◌+◌, ◌*◌, ◌<◌, ◌&&◌, ◌||◌, ◌==◌, ℕ, Bool, false, not, nat_le, nat_lt, List, [], ◌∷◌, ◌++◌, length, map, filter_map, codes, is_some, position, Option, Some, None, if◌then◌else◌}
use Rattle.std.specs.List.{after_first, before_first, list_all, list_any, slice_split}
use Rattle.std.specs.Option.{option_map}
use Rattle.std.specs.Str.{bytes_eq}
use Rattle.due_model.specs.declared.config.Range.{Range}
pub use Rattle.object_reader.specs.claims.DayLines.{begins_with_digit, months, weekdays}
use Rattle.object_values.specs.claims.Values.{is_comma, number_in}

abbrev pub is_colon : ℕ → Bool
is_colon b = b == 58

abbrev pub is_dash : ℕ → Bool
is_dash b = b == 45

-- a time of these hours and minutes, of 00:00 to 24:00, in seconds
abbrev pub time_of : (hours minutes : Option ℕ) → Option ℕ
time_of (Some hours) (Some minutes) = if nat_lt minutes 60 && nat_le (hours * 60 + minutes) 1440
    then Some (hours * 3600 + minutes * 60) else None
time_of _ _ = None

-- a time: hours of one or two digits, a colon, and minutes of two
abbrev pub time_in : List ℕ → Option ℕ
time_in text = time_of
    (if nat_le (length (before_first is_colon text)) 2
    then number_in (before_first is_colon text) else None)
    (if length (after_first is_colon text) == 2
    then number_in (after_first is_colon text) else None)

-- a range between two times, whose start isn't after its end
abbrev pub range_between : (start end : Option ℕ) → Option Range
range_between (Some start) (Some end) =
    if nat_le start end then Some (record { start = start; end = end }) else None
range_between _ _ = None

-- a range: a time, a dash, and another
abbrev pub range_in : List ℕ → Option Range
range_in text = range_between
    (time_in (before_first is_dash text)) (time_in (after_first is_dash text))

-- whether a text is a time, a dash, and a time before the first
abbrev pub is_turned : (start end : Option ℕ) → Bool
is_turned (Some start) (Some end) = nat_lt end start
is_turned _ _ = false

abbrev pub ends_before_it_begins : List ℕ → Bool
ends_before_it_begins text =
    is_turned (time_in (before_first is_dash text)) (time_in (after_first is_dash text))

-- whether a text is ranges with a comma between each two
abbrev pub are_ranges : List ℕ → Bool
are_ranges text = list_all (λ part. is_some (range_in part)) (slice_split is_comma text)

-- the ranges that the parts of a text are
abbrev pub ranges_among : List ℕ → List Range
ranges_among text = filter_map range_in (slice_split is_comma text)

-- the ranges of a day line, in the order of the text; none where it isn't ranges
abbrev pub ranges_in : List ℕ → Option (List Range)
ranges_in text = if are_ranges text then Some (ranges_among text) else None

-- ---- the names of day lines

-- the weekday that a directive names: 0 is Sunday
abbrev pub weekday_of : List ℕ → Option ℕ
weekday_of name = position (bytes_eq name) weekdays

-- the month that a word is: 1 is January
abbrev pub month_of : List ℕ → Option ℕ
month_of word = option_map suc (position (bytes_eq word) months)

-- the first word of a name
abbrev pub first_word : List ℕ → List ℕ
first_word name = before_first (λ b. b == 32) name

-- Whether a directive is a line of dates: it begins with a digit, or its first word is `day`, a
-- month, or a weekday that isn't all of it.
abbrev pub is_dated : List ℕ → Bool
is_dated name = begins_with_digit name
    || bytes_eq (first_word name) (codes "day")
    || list_any (bytes_eq (first_word name)) months
    || (list_any (bytes_eq (first_word name)) weekdays && not (list_any (bytes_eq name) weekdays))
