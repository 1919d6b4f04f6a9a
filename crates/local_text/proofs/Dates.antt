-- The date of a day number is the one that has it.
use Rattle.std.proofs.Common.{◌≡◌, ℕ, zero, suc, ◌+◌, ◌-◌, ◌≤◌, ◌<◌, ℤ, pos, negsuc, ◌+ℤ◌, ◌-ℤ◌, ◌≤ℤ◌, arith, refl, sym, ap, ◌∙◌, inl, inr, unsigned_abs}
use Rattle.std.proofs.lemmas.Bool.Decides.{leb_tells}
use Rattle.jiff_core.specs.Calendar.{day_count, days_from_civil, days_of_months, days_of_years}
use Rattle.jiff_core.specs.Date.{epoch_day}
use Rattle.jiff_core.specs.declared.civil.date.Date.{Date}
use Rattle.jiff_core.proofs.CalendarLemmas.{days_from_civil-day_count, days_of_months-zero, days_of_months_mono, days_of_months_more}
use Rattle.jiff_core.proofs.DateLemmas.{civil}
use Rattle.jiff_core.proofs.SignedLemmas.{signed_arith}
use Rattle.jiff_tz.specs.Year.{year_of_day}
use Rattle.jiff_tz.proofs.YearLemmas.{year_of_day-date}
use Rattle.local_text.specs.Calendar.{civil_date, date_of, days_over, months_within}
use Rattle.local_text.specs.Text.{date_text}

-- the months that are over are those whose days are, up to the next month's
months_within_is : (n : ℕ) (year : ℤ) (k days : ℕ) → k ≤ n → days_of_months year k ≤ days → days < days_of_months year (k + 1) → months_within n year days ≡ k
unfolding months_within
months_within_is zero year k days h a b = omega arith
months_within_is (suc n) year k days h a b = elim (leb_tells (days_of_months year (suc n)) days) [
  | inl fits ↦
      let more = fits.1 in
      rw fits.0 (elim (leb_tells k n) [
        | inl small ↦
            let later = days_of_months_mono year (k + 1) (suc n) (omega arith) in
            absurd (omega arith)
        | inr big ↦ omega arith
      ])
  | inr over ↦
      let less = over.1 in
      rw over.0 (months_within_is n year k days (elim (leb_tells k n) [
        | inl small ↦ small.1
        | inr big ↦
            let same : k ≡ suc n = omega arith in
            let e = ap (λ m. days_of_months year m) same in
            absurd (omega arith)
      ]) a b)
]

nonneg_abs : (z : ℤ) → pos 0 ≤ℤ z → pos (unsigned_abs z) ≡ z
nonneg_abs (pos n) h = refl
nonneg_abs (negsuc n) h = absurd (omega (arith, signed_arith))

-- how many days of the year come before a date
before_date : (d : Date) → unsigned_abs (epoch_day d -ℤ days_from_civil d.year 1 1) ≡ days_of_months d.year (d.month - 1) + (d.day - 1)
unfolding day_count
before_date d =
    let date = civil d in
    let low = date.2.0 in
    let first = days_from_civil-day_count d.year 1 1 in
    let here = days_from_civil-day_count d.year d.month d.day in
    let is_day : epoch_day d ≡ days_from_civil d.year d.month d.day = refl in
    let years : ℕ = unsigned_abs (d.year +ℤ pos 10000) in
    let none = days_of_months-zero d.year in
    let of_first : day_count d.year 1 1 ≡ days_of_years years + (days_of_months d.year 0 + 1 - 1) = refl in
    let of_here : day_count d.year d.month d.day ≡ days_of_years years + (days_of_months d.year (d.month - 1) + d.day - 1) = refl in
    let abs = nonneg_abs (epoch_day d -ℤ days_from_civil d.year 1 1) (omega (arith, signed_arith)) in
    omega (arith, signed_arith)

-- the parts of the date of a day number
of_parts : (d : Date) (year : ℤ) (days : ℕ) → year ≡ d.year → days ≡ days_of_months d.year (d.month - 1) + (d.day - 1)
    → (months_within 11 year days + 1 ≡ d.month) × (days - days_of_months year (months_within 11 year days) + 1 ≡ d.day)
of_parts d year days e f =
    let date = civil d in
    let low = date.1.0 in
    let high = date.1.1 in
    let first = date.2.0 in
    let last = date.2.1 in
    let next = days_of_months_more d.year d.month low in
    let back : d.month - 1 + 1 ≡ d.month = omega arith in
    let after = ap (λ m. days_of_months d.year m) back in
    let within : months_within 11 d.year days ≡ d.month - 1 = months_within_is 11 d.year (d.month - 1) days (omega arith) (omega arith) (omega arith) in
    rw (e, within) (omega arith, omega arith)

pub date_of_date : (d : Date) (day : ℤ) → epoch_day d ≡ day → date_text (civil_date d) ≡ date_text (date_of day)
unfolding date_of
date_of_date d day e =
    let year : year_of_day day ≡ d.year = ap year_of_day (sym e) ∙ year_of_day-date d in
    let days : days_over day ≡ days_of_months d.year (d.month - 1) + (d.day - 1) =
    ap (λ z. unsigned_abs (z -ℤ days_from_civil (year_of_day z) 1 1)) (sym e)
    ∙ ap (λ y. unsigned_abs (epoch_day d -ℤ days_from_civil y 1 1)) (year_of_day-date d) ∙ before_date d in
    let parts = of_parts d (year_of_day day) (days_over day) year days in
    sym (ap (λ y. date_text (record { year = y; month = months_within 11 (year_of_day day) (days_over day) + 1; day = days_over day - days_of_months (year_of_day day) (months_within 11 (year_of_day day) (days_over day)) + 1 })) year
    ∙ ap (λ m. date_text (record { year = d.year; month = m; day = days_over day - days_of_months (year_of_day day) (months_within 11 (year_of_day day) (days_over day)) + 1 })) parts.0
    ∙ ap (λ n. date_text (record { year = d.year; month = d.month; day = n })) parts.1)
