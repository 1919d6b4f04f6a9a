-- The definitions compute, but where no moment of a stretch is in a period, its moments are passed over at once.
use Rattle.std.proofs.Common.{◌≡◌, ℕ, zero, suc, ◌+◌, ◌%◌, ◌<◌, ◌≤◌, Bool, true, false, ◌||◌, nat_le, nat_lt, List, [], ◌∷◌, replicate, slice_get, Option, Some, None, add-zero, zero-add, suc-add, refl, ap, ◌∙◌, arith, le-ltb, ⊎_elim}
use Rattle.std.proofs.lemmas.Bool.{lt-leb, and_left, and_right, cases_lt}
use Rattle.std.specs.List.{list_any}
use Rattle.due_model.specs.declared.config.Range.{Range}
use Rattle.due_model.specs.declared.zone.Zone.TheVariants.{Utc}
use Rattle.due_model.specs.claims.Histories.{hist}
use Rattle.due_model.specs.claims.Local.{local, weekday_at}
use Rattle.due_model.specs.claims.Periods.{in_range, in_period, first_passing, next_in}
use Rattle.due_laws.specs.Rows.{work_hours}
use Rattle.due_laws.proofs.rows.worked_periods.Goals as goal

-- moments that don't pass are passed over
passed_over : (passes : ℕ → Bool) (n count t : ℕ) → ((k : ℕ) → t ≤ k → k < t + n → passes k ≡ false) → first_passing passes (n + count) t ≡ first_passing passes count (t + n)
unfolding first_passing
passed_over passes zero count t h = simp (zero-add, add-zero)
passed_over passes (suc n) count t h =
    rw suc-add (ap (λ b. elim b as (λ _. Option ℕ) [ true ↦ Some t | false ↦ first_passing passes (n + count) (t + 1) ]) (h t (omega arith) (omega arith))
    ∙ passed_over passes n count (t + 1) (λ k low high. h k (omega arith) (omega arith))
    ∙ ap (first_passing passes count) (omega arith))

at_any_day : {X : Type 0} (P : Option X → Type 0) (x : X) (n w : ℕ) → P None → P (Some x) → P (slice_get (replicate n x) w)
at_any_day P x zero w none some = none
at_any_day P x (suc n) zero none some = some
at_any_day P x (suc n) (suc w) none some = at_any_day P x n w none some

-- from 17:00 of the first day to 09:00 of the second
off_hours : (t : ℕ) → 61200 ≤ t → t < 118800 → in_range ((t + 0) % 86400) (record { start = 32400; end = 61200 }) ≡ false
off_hours t low high =
    let s : ℕ = (t + 0) % 86400 in
    ⊎_elim (λ early. and_left (nat_le 32400 s) (nat_lt s 61200) (lt-leb 32400 s early))
    (λ late. and_right (nat_le 32400 s) (nat_lt s 61200) (le-ltb s 61200 (omega arith)))
    (cases_lt s 32400)

not_at_work : (t : ℕ) → 61200 ≤ t → t < 118800 → in_period work_hours Utc (Some (record { 0 = 0 })) t ≡ false
not_at_work t low high =
    let s : ℕ = (t + 0) % 86400 in
    and_left _ true
    (at_any_day {X = List Range} (λ day. list_any (in_range s) (elim day as (λ _. List Range) [ None ↦ [] | Some ranges ↦ ranges ]) ≡ false)
    (record { start = 32400; end = 61200 } ∷ []) 7 (weekday_at (local Utc t)) refl
    (ap (λ b. b || false) (off_hours t low high)))

next_at_work : next_in work_hours Utc (Some (record { 0 = 0 })) 61200 ≡ Some 118800
unfolding next_in first_passing
next_at_work = passed_over (in_period work_hours Utc (Some (record { 0 = 0 }))) 57600 34502401 61200 (λ k low high. not_at_work k low high)

pub returns-clause-work_hours : goal.returns-clause-work_hours
unfolding hist
returns-clause-work_hours c = record { due = simp next_at_work; suppressed = simp next_at_work }

pub returns-clause-nested_exclusion : goal.returns-clause-nested_exclusion
unfolding next_in first_passing
returns-clause-nested_exclusion c = record { lunch = refl; tea = refl; until_tea = refl; after_lunch = refl }
