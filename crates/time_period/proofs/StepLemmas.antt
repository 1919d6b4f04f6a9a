-- Steps, one more, and what their flags say.
use Rattle.std.proofs.Common.{◌≡◌, ℕ, ℤ, pos, negsuc, ◌+ℤ◌, unsigned_abs, ◌<◌, ◌≤◌, Bool, true, false, not, cond, List, [], ◌∷◌, ◌++◌, length, get_or, nat_lt, All, refl, sym, ap, ap₂, subst, ◌∙◌, ◌⊎◌, inl, inr, arith, tests}
use Rattle.std.specs.Prelude.{Contains, ◌&&◌, ◌==◌, Some, slice_get}
use Rattle.std.specs.Int.{int_rem_euclid}
use Rattle.std.specs.List.{list_all, list_any}
use Rattle.std.proofs.Math.Path.{fun_ext}
use Rattle.std.proofs.lemmas.Bool.{and_parts, false≢true}
use Rattle.std.proofs.lemmas.List.{nil_from_length}
use Rattle.std.proofs.lemmas.List.Elements.{All-append, All-cons, All-head, All-nil, All-tail}
use Rattle.lemmas.proofs.Elements.{Contains-cases, Contains-here, Contains-later, Contains-none}
use Rattle.lemmas.proofs.Lists.{any_alike}
use Rattle.due_model.specs.declared.config.Config.{Config}
use Rattle.due_model.specs.declared.config.Dated.{Dated}
use Rattle.due_model.specs.declared.config.Period.{Period}
use Rattle.due_model.specs.declared.config.PeriodId.{PeriodId}
use Rattle.due_model.specs.declared.config.Range.{Range}
use Rattle.due_model.specs.claims.Days.{names_day, ranges_on}
use Rattle.due_model.specs.claims.Limits.{day}
use Rattle.due_model.specs.claims.Local.{Local, weekday_at}
use Rattle.due_model.specs.claims.Periods.{in_range, weekly_ranges}
use Rattle.time_period.specs.declared.decided.Decided.{Decided}
use Rattle.time_period.specs.Classes.{holds_by_class, IsDecided}
use Rattle.time_period.specs.claims.Days.{holds_at, IsCompiled, Worked, worked_holds}
use Rattle.time_period.specs.Days.{AreWorkedOut, IsRight}
use Rattle.time_period.specs.Exclusions.{AreReady, IsSettled}
use Rattle.time_period.specs.claims.Ranges.{in_ranges}
use Rattle.time_period.specs.claims.Steps.{flags_after, Own, own_holds, step_flag, with_flag}
use Rattle.time_period.specs.Steps.{AreClosed, AreMerged, AreMergedLines, AreSteps, at_second, is_plain, IsOwnOf, IsSteady, IsStepOf, numbers, own_at, truth}
use Rattle.time_period.specs.Stretches.{Stays}
use Rattle.time_period.proofs.ClassLemmas.{least-exists, own-by-class}
use Rattle.time_period.proofs.MergeLemmas.{day-alike, own-alike, weekly-is}
use Rattle.time_period.proofs.StretchLemmas.{Stays-same}

pub eq-from : (n m : ℕ) → (n == m) ≡ true → n ≡ m
eq-from n m h = grind (arith, tests)

pub eq-refl : (n : ℕ) → (n == n) ≡ true
eq-refl n = grind (arith, tests)

-- ---- flags

-- the flags after one step more
pub flags-more : (time : Local) (owns : List Own) (own : Own) (flags : ℕ → Bool) → flags_after time (owns ++ own ∷ []) flags
    ≡ with_flag (flags_after time owns flags) own.number (step_flag (flags_after time owns flags) time own)
flags-more time [] own flags = refl
flags-more time (x ∷ xs) own flags = flags-more time xs own (with_flag flags x.number (step_flag flags time x))

-- and by flags that are the same number by number
pub flags-step : (time : Local) (owns : List Own) (own : Own) (first old new : ℕ → Bool) → ((n : ℕ) → old n ≡ flags_after time owns first n)
    → ((n : ℕ) → new n ≡ with_flag old own.number (step_flag old time own) n) → (n : ℕ) → new n ≡ flags_after time (owns ++ own ∷ []) first n
flags-step time owns own first old new before more n =
    more n ∙ ap (λ (f : ℕ → Bool). with_flag f own.number (step_flag f time own) n) (fun_ext before) ∙ sym (ap (λ (f : ℕ → Bool). f n) (flags-more time owns own first))

-- flags stay as they are while the ranges of all steps do
pub flags-steady : (time : Local) (end k : ℕ) (owns : List Own) (flags : ℕ → Bool) → time.second ≤ k → k < end → All (IsSteady time end) owns
    → flags_after (at_second time k) owns flags ≡ flags_after time owns flags
flags-steady time end k [] flags low high steady = refl
flags-steady time end k (own ∷ owns) flags low high steady =
    ap (λ b. flags_after (at_second time k) owns (with_flag flags own.number (b && not (list_any (λ (x : PeriodId). flags x.0) own.excludes))))
    ((All-head (IsSteady time end) own owns steady).steady k low high)
    ∙ flags-steady time end k owns _ low high (All-tail (IsSteady time end) own owns steady)

-- ---- what flags say

module _ (c : Config) (time : Local) (within : time.second < day) where
  -- the flags of these numbers are right
  abbrev AreTrue : List ℕ → (ℕ → Bool) → Type 0
  AreTrue known flags = (n : ℕ) → Contains known n → flags n ≡ truth c n time

  after-true : (owns : List Own) (known : List ℕ) (flags : ℕ → Bool) → All (IsStepOf c) owns → AreClosed known owns → AreTrue known flags
      → (n : ℕ) → Contains known n ⊎ Contains (numbers owns) n → flags_after time owns flags n ≡ truth c n time
  after-true [] known flags each closed are n (inl early) = are n early
  after-true [] known flags each closed are n (inr none) = absurd (Contains-none n none)
  after-true (own ∷ owns) known flags each closed are n where_is =
      after-true owns (own.number ∷ known) next (All-tail (IsStepOf c) own owns each) closed.1 more n (place where_is)
    where
      next : ℕ → Bool
      next = with_flag flags own.number (step_flag flags time own)

      more : AreTrue (own.number ∷ known) next
      more m at = by_number (own.number == m) refl (Contains-cases own.number m known at)
        where
          own-flag : step_flag flags time own ≡ truth c own.number time
          own-flag = (All-head (IsStepOf c) own owns each).flag flags time within (λ x found. are x.0 (closed.0 x found))

          by_number : (b : Bool) → (own.number == m) ≡ b → (own.number ≡ m) ⊎ Contains known m → next m ≡ truth c m time
          by_number true same either = ap (λ b. cond b (step_flag flags time own) (flags m)) same ∙ own-flag ∙ ap (λ (k : ℕ). truth c k time) (eq-from own.number m same)
          by_number false other (inl same) = absurd (false≢true (sym other ∙ subst (λ (k : ℕ). (own.number == k) ≡ true) same (eq-refl own.number)))
          by_number false other (inr early) = ap (λ b. cond b (step_flag flags time own) (flags m)) other ∙ are m early

      place : Contains known n ⊎ Contains (numbers (own ∷ owns)) n → Contains (own.number ∷ known) n ⊎ Contains (numbers owns) n
      place (inl early) = inl (Contains-later own.number n known early)
      place (inr at) = by_case (Contains-cases own.number n (numbers owns) at)
        where
          by_case : (own.number ≡ n) ⊎ Contains (numbers owns) n → Contains (own.number ∷ known) n ⊎ Contains (numbers owns) n
          by_case (inl here) = inl (subst (λ (k : ℕ). Contains (own.number ∷ known) k) here (Contains-here own.number known))
          by_case (inr later) = inr later

  steps-true : (owns : List Own) (flags : ℕ → Bool) (n : ℕ) → AreSteps c owns → Contains (numbers owns) n → flags_after time owns flags n ≡ truth c n time
  steps-true owns flags n are at = after-true owns [] flags are.each are.closed (λ m none. absurd (Contains-none m none)) n (inr at)

-- a period of these steps is worked out
pub right-steps : (c : Config) (number : ℕ) (days : List (List Range)) (owns : List Own) → AreSteps c owns → Contains (numbers owns) number
    → IsCompiled c (record { 0 = number }) (record { number = number; days = days; steps = owns })
right-steps c number days [] are at = absurd (Contains-none number at)
right-steps c number days (own ∷ owns) are at = λ before time within. steps-true c time within (own ∷ owns) before number are at

-- ---- steps of periods

plain-parts : (own : Own) → is_plain own ≡ true → (own.dated ≡ []) × (own.excludes ≡ [])
plain-parts own plain =
    let parts = and_parts (length own.dated == 0) (length own.excludes == 0) plain in
    (nil_from_length own.dated (eq-from (length own.dated) 0 parts.0), nil_from_length own.excludes (eq-from (length own.excludes) 0 parts.1))

and-true : (b : Bool) → (b && true) ≡ b
and-true true = refl
and-true false = refl

-- what is kept of a period by its days alone
pub plain-holds : (c : Config) (p : ℕ) (own : Own) → IsRight c p own → is_plain own ≡ true → (time : Local) → time.second < day
    → holds_at own.days (weekday_at time) time.second ≡ truth c p time
plain-holds c p own right plain time within =
    sym (and-true (holds_at own.days (weekday_at time) time.second))
    ∙ sym (ap₂ (λ (lines : List Dated) (xs : List PeriodId). step_flag (λ n. false) time (record { number = own.number; days = own.days; dated = lines; excludes = xs })) parts.0 parts.1)
    ∙ right.step.flag (λ n. false) time within (λ x found. absurd (Contains-none x (subst (λ (xs : List PeriodId). Contains xs x) parts.1 found)))
    ∙ ap (λ (n : ℕ). truth c n time) right.number
  where
    parts : (own.dated ≡ []) × (own.excludes ≡ [])
    parts = plain-parts own plain

pub plain-compiled : (c : Config) (p : ℕ) (own : Own) → IsRight c p own → is_plain own ≡ true → IsCompiled c (record { 0 = p }) (record { number = p; days = own.days; steps = [] })
plain-compiled c p own right plain before time within = plain-holds c p own right plain time within

-- a period of the configuration as a step
pub own-step : (c : Config) (number : ℕ) (period : Period) (own : Own) → IsSettled c → slice_get c.periods number ≡ Some period → IsOwnOf number period own → IsStepOf c own
own-step c number period own settled at is = record {
  flag = λ flags time within others.
      ap₂ (λ a b. a && not b) (is.alike time within)
      (ap (list_any (λ (x : PeriodId). flags x.0)) is.excludes_are
      ∙ any_alike (λ (x : PeriodId). flags x.0) (λ (x : PeriodId). truth c x.0 time) period.excludes (λ x found. others x (subst (λ (xs : List PeriodId). Contains xs x) (sym is.excludes_are) found)))
      ∙ sym (settled number period time at) ∙ ap (λ (n : ℕ). truth c n time) (sym is.number_is);
}

-- ---- a period without dated lines

pub right-weekly : (c : Config) (number : ℕ) (period : Period) (done : List Own) (days : List (List Range)) → IsSettled c → slice_get c.periods number ≡ Some period → AreReady c period done
    → period.dated ≡ [] → ((x : PeriodId) → Contains period.excludes x → is_plain (own_at done x.0) ≡ true) → AreWorkedOut period done 7 days
    → ((time : Local) → weekday_at time < 7) → IsRight c number (record { number = number; days = days; dated = []; excludes = [] })
right-weekly c number period done days settled at ready none plain out in_week = record {
  number = refl;
  step = record {
    flag = λ flags time within others.
        and-true (holds_at days (weekday_at time) time.second)
        ∙ out.alike (weekday_at time) time.second (in_week time) within
        ∙ ap₂ (λ a b. a && not b)
        (sym (ap (λ (lines : List Dated). list_any (in_range time.second) (ranges_on (weekly_ranges period (weekday_at time)) lines time)) none))
        (any_alike (λ (x : PeriodId). holds_at (own_at done x.0).days (weekday_at time) time.second) (λ (x : PeriodId). truth c x.0 time) period.excludes
        (λ x found. plain-holds c x.0 (own_at done x.0) (ready x found) (plain x found) time within))
        ∙ sym (settled number period time at);
  };
  excludes = λ x none. absurd (Contains-none x none);
}

-- any other period
pub right-own : (c : Config) (number : ℕ) (period : Period) (own : Own) → IsSettled c → slice_get c.periods number ≡ Some period → IsOwnOf number period own → IsRight c number own
right-own c number period own settled at is = record {
  number = is.number_is;
  step = own-step c number period own settled at is;
  excludes = λ x found. (period, at, subst (λ (xs : List PeriodId). Contains xs x) is.excludes_are found);
}

-- ---- stretches

pub steady-more : (time : Local) (end e m : ℕ) (owns : List Own) (own : Own) → All (IsSteady time end) owns → IsSteady time e own → m ≤ end → m ≤ e → All (IsSteady time m) (owns ++ own ∷ [])
steady-more time end e m owns own all one low high =
    All-append (IsSteady time m) owns (own ∷ []) (λ i d within. record { steady = λ k from below. (all i d within).steady k from (omega (arith, below, low)) })
    (All-cons (IsSteady time m) own [] (record { steady = λ k from below. one.steady k from (omega (arith, below, high)) }) (All-nil (IsSteady time m)))

stepped : (worked : Worked) (before : ℕ → Bool) (time : Local) → 0 < length worked.steps → worked_holds worked before time ≡ flags_after time worked.steps before worked.number
stepped worked before time some = by_steps worked.steps refl
  where
    by_steps : (owns : List Own) → worked.steps ≡ owns → worked_holds worked before time ≡ flags_after time worked.steps before worked.number
    by_steps [] none = let long = ap (λ (os : List Own). length os) none in absurd (omega (arith, some, long))
    by_steps (own ∷ owns) is = ap (λ (os : List Own). worked_holds (record worked { steps = os }) before time) is ∙ sym (ap (λ (os : List Own). flags_after time os before worked.number) is)

pub stretch-by : (worked : Worked) (before : ℕ → Bool) (time : Local) (end : ℕ) (holds : Bool) → 0 < length worked.steps → time.second < end
    → holds ≡ flags_after time worked.steps before worked.number → All (IsSteady time end) worked.steps
    → Stays (λ k. worked_holds worked before (at_second time k)) time.second holds end
stretch-by worked before time end holds some later is steady = record {
  later = later;
  alike = λ k low high.
      stepped worked before (at_second time k) some
      ∙ ap (λ (f : ℕ → Bool). f worked.number) (flags-steady time end k worked.steps before low high steady)
      ∙ sym is;
}

pub stretch-weekly : (worked : Worked) (before : ℕ → Bool) (d : ℤ) (weekday s : ℕ) (holds : Bool) (end : ℕ) → length worked.steps ≡ 0 → weekday ≡ weekday_at (record { day = d; second = s })
    → Stays (holds_at worked.days weekday) s holds end → Stays (λ k. worked_holds worked before (record { day = d; second = k })) s holds end
stretch-weekly worked before d weekday s holds end none is stays = record {
  later = stays.later;
  alike = λ k low high.
      ap (λ (os : List Own). worked_holds (record worked { steps = os }) before (record { day = d; second = k })) (nil_from_length worked.steps none)
      ∙ sym (ap (λ (n : ℕ). holds_at worked.days n k) is) ∙ stays.alike k low high;
}

-- a period's own ranges stay where those of the lines that decide do, or its weekday's where no line names the day
module _ (own : Own) (time : Local) (decided : Decided) (is : IsDecided time own.dated decided) where
  own-by : (k : ℕ) → own_holds own (at_second time k)
      ≡ cond (nat_lt decided.class 6) (holds_by_class decided.class time own.dated k) (in_ranges (get_or own.days (weekday_at time) []) k)
  own-by k = own-by-class (get_or own.days (weekday_at time) []) own.dated time decided.class k is.least

  pub own-dated : decided.class < 6 → Stays (λ k. own_holds own (at_second time k)) time.second decided.stretch.holds decided.stretch.end
  own-dated low =
      Stays-same (λ k. own_holds own (at_second time k)) (holds_by_class decided.class time own.dated) time.second decided.stretch.holds decided.stretch.end
      (λ k. own-by k ∙ ap (λ b. cond b (holds_by_class decided.class time own.dated k) (in_ranges (get_or own.days (weekday_at time) []) k)) (below decided.class low)) is.stretch
    where
      below : (n : ℕ) → n < 6 → nat_lt n 6 ≡ true
      below n h = grind (arith, tests)

  pub own-weekly : (holds : Bool) (end : ℕ) → 6 ≤ decided.class → Stays (in_ranges (get_or own.days (weekday_at time) [])) time.second holds end
      → Stays (λ k. own_holds own (at_second time k)) time.second holds end
  own-weekly holds end high stays =
      Stays-same (λ k. own_holds own (at_second time k)) (in_ranges (get_or own.days (weekday_at time) [])) time.second holds end
      (λ k. own-by k ∙ ap (λ b. cond b (holds_by_class decided.class time own.dated k) (in_ranges (get_or own.days (weekday_at time) []) k)) (above decided.class high)) stays
    where
      above : (n : ℕ) → 6 ≤ n → nat_lt n 6 ≡ false
      above n h = grind (arith, tests)

-- ---- what is kept of a period

pub own-of : (number : ℕ) (period : Period) (days : List (List Range)) (dated : List Dated) (excludes : List PeriodId) → AreMerged period.days days → AreMergedLines period.dated dated → excludes ≡ period.excludes
    → IsOwnOf number period (record { number = number; days = days; dated = dated; excludes = excludes })
own-of number period days dated excludes are_days are_lines same = record {
  number_is = refl;
  excludes_are = same;
  alike = λ time within.
      let least = least-exists (λ line. names_day time line.day) dated in
      own-alike (weekly_ranges period (weekday_at time)) (get_or days (weekday_at time) []) period.dated dated time least.0 within least.1 are_lines
      (day-alike period.days days are_days (weekday_at time) time.second within ∙ ap (λ (ranges : List Range). in_ranges ranges time.second) (sym (weekly-is period.days (weekday_at time))));
}

pub weekday-stretch : (days own : List (List Range)) (weekday w second s : ℕ) (holds : Bool) (end : ℕ) → days ≡ own → weekday ≡ w → second ≡ s
    → Stays (in_ranges (get_or days weekday [])) second holds end → Stays (in_ranges (get_or own w [])) s holds end
weekday-stretch days own weekday w second s holds end days_are weekday_is second_is stays =
    subst (λ (n : ℕ). Stays (in_ranges (get_or own w [])) n holds end) second_is
    (subst (λ (n : ℕ). Stays (in_ranges (get_or own n [])) second holds end) weekday_is
    (subst (λ (ds : List (List Range)). Stays (in_ranges (get_or ds weekday [])) second holds end) days_are stays))

pub empty-dated : (dated : List Dated) → length dated ≡ 0 → dated ≡ []
empty-dated dated none = nil_from_length dated none

-- a period all of whose excluded ones are kept by their days alone
pub all-plain : (excludes : List PeriodId) (done : List Own) → list_all (λ (x : PeriodId). is_plain (own_at done x.0)) excludes ≡ true
    → (x : PeriodId) → Contains excludes x → is_plain (own_at done x.0) ≡ true
all-plain [] done all x at = absurd (Contains-none x at)
all-plain (y ∷ ys) done all x at =
    let parts = and_parts (is_plain (own_at done y.0)) (list_all (λ (z : PeriodId). is_plain (own_at done z.0)) ys) all in
    by_case parts.0 (λ later. all-plain ys done parts.1 x later) (Contains-cases y x ys at)
  where
    by_case : is_plain (own_at done y.0) ≡ true → (Contains ys x → is_plain (own_at done x.0) ≡ true) → (y ≡ x) ⊎ Contains ys x → is_plain (own_at done x.0) ≡ true
    by_case plain more (inl here) = subst (λ (z : PeriodId). is_plain (own_at done z.0) ≡ true) here plain
    by_case plain more (inr later) = more later

rem-below : (z : ℤ) → unsigned_abs (int_rem_euclid z (pos 7)) < 7
rem-below (pos a) = omega arith
rem-below (negsuc a) = omega arith

pub weekday-within : (time : Local) → weekday_at time < 7
weekday-within time = rem-below (time.day +ℤ pos 4)
