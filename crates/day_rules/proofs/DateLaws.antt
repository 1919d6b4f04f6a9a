-- A rule that names a local day fits its date.
use Rattle.std.proofs.Common.{◌≡◌, ℕ, zero, suc, ◌+◌, ◌<◌, ◌≤◌, ◌==◌, Bool, true, false, true≢false, ◌&&◌, ◌||◌, nat_le, ℤ, pos, negsuc, ◌+ℤ◌, unsigned_abs, refl, sym, ap, ap₂, ◌∙◌, arith, ⊎_elim}
use Rattle.std.specs.Int.{int_rem_euclid}
use Rattle.std.specs.List.{list_any, range_with_len}
use Rattle.std.specs.Ordering.{int_eq}
use Rattle.std.proofs.lemmas.Bool.{cases_eq, eqb-true, eq-eqb, ne_eqb}
use Rattle.std.proofs.lemmas.Bool.Decides.{Decides-int_eq, nat_tests}
use Rattle.jiff_core.specs.declared.civil.date.Date.{Date}
use Rattle.jiff_core.specs.Calendar.{day_count, days_from_civil, days_in_month, IsCivilDate, IsYear}
use Rattle.jiff_core.specs.Date.{epoch_day, month_length}
use Rattle.jiff_core.proofs.CalendarLemmas.{days_from_civil-day_count, days_in_month_bounds}
use Rattle.jiff_core.proofs.DateLemmas.{epoch_day_injective}
use Rattle.jiff_core.proofs.SignedLemmas.{signed_arith}
use Rattle.jiff_tz.specs.Year.{year_of_day}
use Rattle.jiff_tz.proofs.YearLemmas.{year_of_day-date}
use Rattle.due_model.specs.declared.config.DayRule.{DayRule}
use Rattle.due_model.specs.declared.config.DayRule.TheVariants as rule
use Rattle.due_model.specs.claims.Days.{day_from, is_date, is_day_of, is_nth, is_nth_in, months, names_day, year_at}
use Rattle.due_model.specs.claims.Local.{Local, weekday_at}
use Rattle.day_rules.specs.Dates.{fits}

-- ---- booleans

same_bool : (b c : Bool) → (b ≡ true → c ≡ true) → (c ≡ true → b ≡ true) → b ≡ c
same_bool true c on back = sym (on refl)
same_bool false true on back = back refl
same_bool false false on back = refl

and_two : (a b : Bool) → (a && b) ≡ true → (a ≡ true) × (b ≡ true)
and_two true true h = (refl, refl)
and_two true false h = absurd (true≢false (sym h))
and_two false b h = absurd (true≢false (sym h))

both : (a b : Bool) → a ≡ true → b ≡ true → (a && b) ≡ true
both a b h k = rw (h, k) refl

le_is : (a b : ℕ) → nat_le a b ≡ true → a ≤ b
le_is a b test = grind (arith, nat_tests)

le_true : (a b : ℕ) → a ≤ b → nat_le a b ≡ true
le_true a b h = grind (arith, nat_tests)

-- ---- a date

-- the days between -10000-01-01 and the date
since_start : (y : ℤ) (m k : ℕ) → days_from_civil y m k +ℤ pos 4_371_953 ≡ pos (day_count y m k)
since_start y m k = let e = days_from_civil-day_count y m k in omega (arith, signed_arith, e)

count_is : (d : Date) → unsigned_abs (epoch_day d +ℤ pos 4_371_953) ≡ day_count d.year d.month d.day
count_is d = ap unsigned_abs (since_start d.year d.month d.day)

-- the date with these numbers
abbrev the_date : (y : ℤ) (m k : ℕ) → IsCivilDate y m k → Date
the_date y m k is = record { year = y; month = m; day = k; year_in = is.0; month_in = is.1; day_in = is.2 }

same_day : (a b : ℤ) (n : ℕ) → a +ℤ pos 4_371_953 ≡ pos n → b +ℤ pos 4_371_953 ≡ pos n → a ≡ b
same_day a b n e f = omega (arith, signed_arith, e, f)

-- a date with the same count is the same
numbers_same : (d : Date) (y : ℤ) (m k : ℕ) → IsCivilDate y m k → day_count y m k ≡ day_count d.year d.month d.day
    → (d.year ≡ y) × ((d.month ≡ m) × (d.day ≡ k))
numbers_same d y m k is same =
    let other : Date = the_date y m k is in
    let days : epoch_day d ≡ epoch_day other = same_day (epoch_day d) (epoch_day other) (day_count y m k)
    (since_start d.year d.month d.day ∙ ap (λ (n : ℕ). pos n) (sym same)) (since_start y m k) in
    let parts = epoch_day_injective d other days in
    (parts.0, (parts.1, parts.2))

and_six : (a b c d e f : Bool) → (a && b && c && d && e && f) ≡ true
    → (a ≡ true) × ((b ≡ true) × ((c ≡ true) × ((d ≡ true) × ((e ≡ true) × (f ≡ true)))))
and_six true true true true true true h = (refl, (refl, (refl, (refl, (refl, refl)))))
and_six true true true true true false h = cc
and_six true true true true false f h = cc
and_six true true true false e f h = cc
and_six true true false d e f h = cc
and_six true false c d e f h = cc
and_six false b c d e f h = cc

within : (y : ℤ) → unsigned_abs y ≤ 9999 → IsYear y
within (pos n) h = omega (arith, signed_arith, h)
within (negsuc n) h = omega (arith, signed_arith, h)

abs_within : (y : ℤ) → IsYear y → unsigned_abs y ≤ 9999
abs_within (pos n) h = omega (arith, signed_arith, h)
abs_within (negsuc n) h = omega (arith, signed_arith, h)

-- a date by its numbers
pub date_is : (d : Date) (time : Local) → time.day ≡ epoch_day d → (y : ℤ) (m k : ℕ)
    → is_date time y m k ≡ (int_eq d.year y && (d.month == m && d.day == k))
date_is d time day y m k = same_bool _ _ on back
  where
    count : unsigned_abs (time.day +ℤ pos 4_371_953) ≡ day_count d.year d.month d.day
    count = ap (λ (z : ℤ). unsigned_abs (z +ℤ pos 4_371_953)) day ∙ count_is d

    on : is_date time y m k ≡ true → (int_eq d.year y && (d.month == m && d.day == k)) ≡ true
    on h =
        let parts = and_six (nat_le (unsigned_abs y) 9999) (nat_le 1 m) (nat_le m 12) (nat_le 1 k) (nat_le k (days_in_month y m)) (day_count y m k == unsigned_abs (time.day +ℤ pos 4_371_953)) h in
        let civil : IsCivilDate y m k = (within y (le_is _ _ parts.0), (le_is _ _ parts.1.0, le_is _ _ parts.1.1.0), (le_is _ _ parts.1.1.1.0, le_is _ _ parts.1.1.1.1.0)) in
        let same = numbers_same d y m k civil (eqb-true _ _ parts.1.1.1.1.1 ∙ count) in
        both _ _ ((Decides-int_eq d.year y).1 same.0) (both _ _ (eq-eqb _ _ same.1.0) (eq-eqb _ _ same.1.1))

    back : (int_eq d.year y && (d.month == m && d.day == k)) ≡ true → is_date time y m k ≡ true
    back h =
        let parts = and_two _ _ h in
        let more = and_two _ _ parts.1 in
        let year : d.year ≡ y = (Decides-int_eq d.year y).0 parts.0 in
        let month : d.month ≡ m = eqb-true _ _ more.0 in
        let same : d.day ≡ k = eqb-true _ _ more.1 in
        let its : is_date time d.year d.month d.day ≡ true =
        rw (le_true _ _ (abs_within d.year d.year_in), le_true _ _ d.month_in.0, le_true _ _ d.month_in.1, le_true _ _ d.day_in.0, le_true _ _ d.day_in.1, eq-eqb _ _ (sym count)) refl in
        rw (← year, ← month, ← same) its

-- ---- one of several

and_when : (a b c : Bool) → (a ≡ true → b ≡ c) → (a && b) ≡ (a && c)
and_when true b c same = same refl
and_when false b c same = refl

turned : (a b c e : Bool) → (a ≡ true → b ≡ true → c ≡ e) → ((a && b) && c) ≡ (b && (a && e))
turned true true c e same = same refl refl
turned true false c e same = refl
turned false true c e same = refl
turned false false c e same = refl

or_first : (a b : Bool) → a ≡ false → (a || b) ≡ b
or_first false b h = refl
or_first true b h = absurd (true≢false h)

or_second : (a b p : Bool) → a ≡ p → b ≡ false → (a || b) ≡ p
or_second true b p h none = h
or_second false false p h none = h
or_second false true p h none = absurd (true≢false none)

module _ (f : ℕ → Bool) (k : ℕ) (p : Bool) (each : (m : ℕ) → f m ≡ (k == m && p)) where
  other : (m : ℕ) → ¬ (k ≡ m) → f m ≡ false
  other m apart = each m ∙ ap (λ (b : Bool). b && p) (ne_eqb k m apart)

  none_after : (a n : ℕ) → k < a → list_any f (range_with_len a n) ≡ false
  none_after a zero h = refl
  none_after a (suc n) h = or_first (f a) _ (other a (λ e. absurd (omega (arith, h, e)))) ∙ none_after (a + 1) n (omega (arith, h))

  -- the test of those numbers is the test of the one
  one_of : (a n : ℕ) → a ≤ k → k < a + n → list_any f (range_with_len a n) ≡ p
  one_of a zero low high = absurd (omega (arith, low, high))
  one_of a (suc n) low high = ⊎_elim
      (λ (is : k ≡ a). or_second (f a) _ p (each a ∙ ap (λ (b : Bool). b && p) (eq-eqb k a is)) (none_after (a + 1) n (omega (arith, is))))
      (λ (apart : ¬ (k ≡ a)). or_first (f a) _ (other a apart) ∙ one_of (a + 1) n (omega (arith, low, apart)) (omega (arith, high)))
      (cases_eq k a)

-- ---- rules

module _ (d : Date) (time : Local) (day : time.day ≡ epoch_day d) where
  year_is : year_at time ≡ d.year
  year_is = ap year_of_day day ∙ year_of_day-date d

  -- a date of this year
  in_year : (m k : ℕ) → is_date time (year_at time) m k ≡ (d.month == m && d.day == k)
  in_year m k =
      date_is d time day (year_at time) m k
      ∙ ap (λ (b : Bool). b && (d.month == m && d.day == k)) ((Decides-int_eq d.year (year_at time)).1 (sym year_is))

  length_is : (m : ℕ) → (d.month == m) ≡ true → days_in_month (year_at time) m ≡ month_length d
  length_is m is = ap (λ (y : ℤ). days_in_month y m) year_is ∙ ap (days_in_month d.year) (sym (eqb-true d.month m is))

  day_of : (m : ℕ) (k : ℤ) → is_day_of time m k ≡ (d.month == m && d.day == day_from (month_length d) k)
  day_of m k =
      in_year m (day_from (days_in_month (year_at time) m) k)
      ∙ and_when (d.month == m) _ _ (λ is. ap (λ (n : ℕ). d.day == day_from n k) (length_is m is))

  day_of_each : (k : ℤ) → list_any (λ m. is_day_of time m k) months ≡ (d.day == day_from (month_length d) k)
  day_of_each k = one_of (λ m. is_day_of time m k) d.month (d.day == day_from (month_length d) k) (λ m. day_of m k) 1 12 d.month_in.0 (let high = d.month_in.1 in omega (arith, high))

  nth_in : (m : ℕ) (n : ℤ) → is_nth_in time m n ≡ (d.month == m && is_nth (month_length d) d.day n)
  nth_in m n =
      one_of (λ k. is_date time (year_at time) m k && is_nth (days_in_month (year_at time) m) k n) d.day (d.month == m && is_nth (month_length d) d.day n)
      (λ k. ap (λ (b : Bool). b && is_nth (days_in_month (year_at time) m) k n) (in_year m k)
      ∙ turned (d.month == m) (d.day == k) _ _ (λ is same. ap (λ (l : ℕ). is_nth l k n) (length_is m is) ∙ ap (λ (j : ℕ). is_nth (month_length d) j n) (sym (eqb-true d.day k same))))
      1 31 d.day_in.0 (let high = d.day_in.1 in let most = (days_in_month_bounds d.year d.month).0 in omega (arith, high, most))

  nth_in_each : (n : ℤ) → list_any (λ m. is_nth_in time m n) months ≡ is_nth (month_length d) d.day n
  nth_in_each n = one_of (λ m. is_nth_in time m n) d.month (is_nth (month_length d) d.day n) (λ m. nth_in m n) 1 12 d.month_in.0 (let high = d.month_in.1 in omega (arith, high))

  -- a rule names the day where it fits the date
  pub fits_is : (w : ℕ) → w ≡ unsigned_abs (int_rem_euclid (epoch_day d +ℤ pos 4) (pos 7)) → (r : DayRule) → fits d w r ≡ names_day time r
  fits_is w is (rule.Date y m k) = sym (date_is d time day y m k)
  fits_is w is (rule.OfMonth m k) = sym (day_of m k)
  fits_is w is (rule.OfEachMonth k) = sym (day_of_each k)
  fits_is w is (rule.WeekdayOfMonth v n m) = ap₂ (λ (a b : Bool). a && b) (ap (λ (u : ℕ). u == v) (is ∙ weekday)) (sym (nth_in m n))
    where
      weekday : unsigned_abs (int_rem_euclid (epoch_day d +ℤ pos 4) (pos 7)) ≡ weekday_at time
      weekday = ap (λ (z : ℤ). unsigned_abs (int_rem_euclid (z +ℤ pos 4) (pos 7))) (sym day)
  fits_is w is (rule.WeekdayOfEachMonth v n) = ap₂ (λ (a b : Bool). a && b) (ap (λ (u : ℕ). u == v) (is ∙ weekday)) (sym (nth_in_each n))
    where
      weekday : unsigned_abs (int_rem_euclid (epoch_day d +ℤ pos 4) (pos 7)) ≡ weekday_at time
      weekday = ap (λ (z : ℤ). unsigned_abs (int_rem_euclid (z +ℤ pos 4) (pos 7))) (sym day)
