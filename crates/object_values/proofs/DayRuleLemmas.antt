-- The parts of a date.
use Rattle.std.proofs.Common.{◌≡◌, ◌∙◌, ap, ℕ, ℤ, List, Option}
use Rattle.std.specs.List.{after_first, before_first}
use Rattle.object_values.specs.declared.day_rules.DayName.{DayName}
use Rattle.object_values.specs.claims.DayRules.{date_in, date_of, part_in, year_in}
use Rattle.object_values.specs.claims.Ranges.{is_dash}

pub date-parts : (text rest : List ℕ) (year : Option ℤ) (month day : Option ℕ) → rest ≡ after_first is_dash text → year ≡ year_in (before_first is_dash text)
    → month ≡ part_in 12 (before_first is_dash rest) → day ≡ part_in 31 (after_first is_dash rest) → (date : DayName) → date ≡ date_of year month day → date ≡ date_in text
date-parts text rest year month day rest_is year_is month_is day_is date is =
    is ∙ ap (λ y. date_of y month day) year_is
    ∙ ap (λ m. date_of (year_in (before_first is_dash text)) m day) (month_is ∙ ap (λ r. part_in 12 (before_first is_dash r)) rest_is)
    ∙ ap (λ d. date_of (year_in (before_first is_dash text)) (part_in 12 (before_first is_dash (after_first is_dash text))) d) (day_is ∙ ap (λ r. part_in 31 (after_first is_dash r)) rest_is)
