-- The days that the names of lines of dates say (chapter "Time Periods", "Time Range Exceptions").
use Rattle.std.specs.Prelude.{ℕ, zero, suc, ◌||◌, ◌==◌, not, List, [], ◌∷◌, length, codes, nat_le, Option, Some, None, ℤ, pos, negsuc, if◌then◌else◌}
use Rattle.std.specs.Char.{is_ascii_digit}
use Rattle.std.specs.List.{after_first, before_first, list_all}
use Rattle.std.specs.Option.{option_map}
use Rattle.std.specs.Str.{bytes_eq}
use Rattle.due_model.specs.declared.config.DayRule.{DayRule}
use Rattle.due_model.specs.declared.config.DayRule.TheVariants.{Date, OfMonth, OfEachMonth, WeekdayOfMonth, WeekdayOfEachMonth}
use Rattle.object_values.specs.declared.day_rules.DayName.{DayName}
use Rattle.object_values.specs.declared.day_rules.DayName.TheVariants.{Day, NoDay, Other}
use Rattle.object_values.specs.claims.Ranges.{begins_with_digit, first_word, is_dash, month_of, weekday_of}
use Rattle.object_values.specs.claims.Values.{number_in}

-- ---- numbers

-- the number, where it is at most so many; 0 where it isn't
abbrev pub at_most : ℕ → Option ℕ → ℕ
at_most most None = 0
at_most most (Some number) = if nat_le number most then number else 0

-- The number that digits write, from 1 to the most; 0 where it is none of these. None where the text isn't digits.
abbrev pub counted_in : ℕ → List ℕ → Option ℕ
counted_in most text = if length text == 0 then None
    else if not (list_all is_ascii_digit text) then None
    else Some (at_most most (number_in text))

-- so many from the end
abbrev pub back_from : ℕ → ℤ
back_from zero = pos zero
back_from (suc number) = negsuc number

-- The same with a minus sign, which counts from the end.
abbrev pub signed_in : ℕ → List ℕ → Option ℤ
signed_in most [] = None
signed_in most (b ∷ bs) = if is_dash b then option_map back_from (counted_in most bs)
    else option_map pos (counted_in most (b ∷ bs))

-- ---- days

-- the rule of a number that may be there; 0 is no day's
abbrev pub ruled : (ℤ → DayRule) → Option ℤ → DayName
ruled rule None = Other
ruled rule (Some (pos zero)) = NoDay
ruled rule (Some (pos (suc number))) = Day (rule (pos (suc number)))
ruled rule (Some (negsuc number)) = Day (rule (negsuc number))

-- a part of a date, of one digit or two
abbrev pub part_in : ℕ → List ℕ → Option ℕ
part_in most text = if nat_le (length text) 2 then counted_in most text else None

-- a year, of four digits
abbrev pub year_in : List ℕ → Option ℤ
year_in text = if length text == 4
    then option_map (λ year. pos (at_most 9999 (Some year))) (number_in text) else None

abbrev pub date_of : (year : Option ℤ) → (month day : Option ℕ) → DayName
date_of (Some year) (Some month) (Some day) =
    if month == 0 || day == 0 then NoDay else Day (Date year month day)
date_of _ _ _ = Other

-- a date: a year, a month and a day, with a dash between each two
abbrev pub date_in : List ℕ → DayName
date_in text = let rest = after_first is_dash text in
    date_of (year_in (before_first is_dash text))
    (part_in 12 (before_first is_dash rest)) (part_in 31 (after_first is_dash rest))

-- what follows a weekday: a place, and a month or nothing
abbrev pub in_month : ℕ → Option ℤ → Option ℕ → DayName
in_month weekday place None = Other
in_month weekday place (Some month) = ruled (λ n. WeekdayOfMonth weekday n month) place

abbrev pub of_weekday : ℕ → (place month : List ℕ) → DayName
of_weekday weekday place [] = ruled (λ n. WeekdayOfEachMonth weekday n) (signed_in 5 place)
of_weekday weekday place (b ∷ bs) = in_month weekday (signed_in 5 place) (month_of (b ∷ bs))

abbrev pub by_weekday : Option ℕ → List ℕ → DayName
by_weekday None rest = Other
by_weekday (Some weekday) rest =
    of_weekday weekday (before_first (λ b. b == 32) rest) (after_first (λ b. b == 32) rest)

abbrev pub by_month : Option ℕ → (first rest : List ℕ) → DayName
by_month None first rest = by_weekday (weekday_of first) rest
by_month (Some month) first rest = ruled (λ day. OfMonth month day) (signed_in 31 rest)

-- What the name of a line of dates says: its words have one space between each two.
unfoldable pub day_named : List ℕ → DayName
day_named name = let first = first_word name in let rest = after_first (λ b. b == 32) name in
    if begins_with_digit name then (if length rest == 0 then date_in first else Other)
    else if bytes_eq first (codes "day")
    then ruled (λ day. OfEachMonth day) (signed_in 31 rest)
    else by_month (month_of first) first rest
