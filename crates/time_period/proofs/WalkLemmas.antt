-- A walk from stretch to stretch finds the first moment that passes.
use Rattle.std.proofs.Common.{◌≡◌, ℕ, zero, suc, ◌+◌, ◌-◌, ◌<◌, ◌≤◌, ℤ, pos, negsuc, unsigned_abs, Bool, true, false, Option, None, Some, refl, sym, ap, ap₂, ◌∙◌, arith, inl, inr}
use Rattle.std.specs.Int.{int_rem_euclid}
use Rattle.std.proofs.lemmas.Bool.Decides.{leb_tells}
use Rattle.due_model.specs.declared.config.Config.{Config}
use Rattle.due_model.specs.declared.config.PeriodId.{PeriodId}
use Rattle.due_model.specs.declared.zone.Zone.{Zone}
use Rattle.due_model.specs.claims.Limits.{day}
use Rattle.due_model.specs.claims.Local.{Local, local, local_second}
use Rattle.due_model.specs.claims.Periods.{first_passing, in_period, next_in, reach_of_next}
use Rattle.zone_times.specs.Clock.{GoesOn, later}
use Rattle.time_period.specs.claims.Days.{IsCompiled, Worked, worked_holds}
use Rattle.time_period.specs.Stretches.{Stays}
use Rattle.time_period.specs.Walks.{HasCome}

module _ (test : ℕ → Bool) where
  fails_now : (n t : ℕ) → test t ≡ false → first_passing test (suc n) t ≡ first_passing test n (t + 1)
  unfolding first_passing
  fails_now n t e = ap (λ b. elim b as (λ _. Option ℕ) [ true ↦ Some t | false ↦ first_passing test n (t + 1) ]) e

  holds_now : (n t : ℕ) → 0 < n → test t ≡ true → first_passing test n t ≡ Some t
  unfolding first_passing
  holds_now zero t h e = absurd (omega (arith, h))
  holds_now (suc n) t h e = ap (λ b. elim b as (λ _. Option ℕ) [ true ↦ Some t | false ↦ first_passing test n (t + 1) ]) e

  none_left : (t : ℕ) → first_passing test 0 t ≡ None
  unfolding first_passing
  none_left t = refl

  skip : (m n t : ℕ) → m ≤ n → ((k : ℕ) → t ≤ k → k < t + m → test k ≡ false) → first_passing test n t ≡ first_passing test (n - m) (t + m)
  skip zero n t h off = ap₂ (λ (x : ℕ) (y : ℕ). first_passing test x y) (omega arith) (omega arith)
  skip (suc m) zero t h off = absurd (omega (arith, h))
  skip (suc m) (suc n) t h off =
      fails_now n t (off t (omega arith) (omega arith))
      ∙ skip m n (t + 1) (omega (arith, h)) (λ k low high. off k (omega (arith, low)) (omega (arith, high)))
      ∙ ap₂ (λ (x : ℕ) (y : ℕ). first_passing test x y) (omega arith) (omega arith)

  -- a stretch that doesn't pass is stepped over, also where it goes past the end
  step_over : (n at until : ℕ) → Stays test at false until → first_passing test n at ≡ first_passing test (n - (until - at)) until
  step_over n at until stays = elim (leb_tells (until - at) n) [
    | inl within ↦ skip (until - at) n at within.1 (λ k low high. stays.alike k low (omega (arith, high, stays.later)))
        ∙ ap (λ y. first_passing test (n - (until - at)) y) (omega (arith, stays.later))
    | inr past ↦ skip n n at (omega arith) (λ k low high. stays.alike k low (omega (arith, high, past.1)))
        ∙ ap (λ x. first_passing test x (at + n)) (nothing n n (omega arith)) ∙ none_left (at + n)
        ∙ sym (none_left until) ∙ ap (λ x. first_passing test x until) (sym (nothing n (until - at) (omega (arith, past.1))))
  ]
    where
      nothing : (a b : ℕ) → a ≤ b → a - b ≡ 0
      nothing a b h = omega (arith, h)

  pub come_begin : (t : ℕ) → HasCome test t t
  come_begin t = record { low = omega arith; left = ap (λ n. first_passing test n t) (omega arith) }

  pub come_on : (t at until : ℕ) → HasCome test t at → at < t + (reach_of_next + 1) → Stays test at false until → HasCome test t until
  come_on t at until come within stays = record {
    low = omega (arith, come.low, stays.later);
    left = come.left ∙ step_over (t + (reach_of_next + 1) - at) at until stays
        ∙ ap (λ n. first_passing test n until) (omega (arith, come.low, within, stays.later));
  }

  pub come_found : (t at : ℕ) → HasCome test t at → at < t + (reach_of_next + 1) → test at ≡ true → first_passing test (reach_of_next + 1) t ≡ Some at
  come_found t at come within e = come.left ∙ holds_now (t + (reach_of_next + 1) - at) at (omega (arith, within)) e

  pub come_past : (t at : ℕ) → HasCome test t at → t + (reach_of_next + 1) ≤ at → first_passing test (reach_of_next + 1) t ≡ None
  come_past t at come past = come.left ∙ ap (λ n. first_passing test n at) (omega (arith, past)) ∙ none_left at

pub next_of : (c : Config) (zone : Zone) (period : PeriodId) (t : ℕ) → first_passing (in_period c zone (Some period)) (reach_of_next + 1) t ≡ next_in c zone (Some period) t
unfolding next_in
next_of c zone period t = refl

rem_below : (z : ℤ) (n : ℕ) → 0 < n → unsigned_abs (int_rem_euclid z (pos n)) < n
rem_below (pos a) n h = omega arith
rem_below (negsuc a) n h = omega arith

pub in_day : (zone : Zone) (t : ℕ) → (local zone t).second < day
in_day zone t = rem_below (local_second zone t) day (omega arith)

-- a worked-out period holds where the period of the configuration does
pub holds_in : (c : Config) (zone : Zone) (period : PeriodId) (worked : Worked) (before : ℕ → Bool) → IsCompiled c period worked
    → (t : ℕ) → worked_holds worked before (local zone t) ≡ in_period c zone (Some period) t
holds_in c zone period worked before compiled t = compiled before (local zone t) (in_day zone t)

-- the local time of a moment, by its numbers
pub same_local : (zone : Zone) (t : ℕ) (d : ℤ) (s : ℕ) → d ≡ (local zone t).day → s ≡ (local zone t).second → record { day = d; second = s } ≡ local zone t
same_local zone t d s day_is second_is = ap₂ (λ (e : ℤ) (r : ℕ). the_local e r) day_is second_is
  where
    the_local : ℤ → ℕ → Local
    the_local e r = record { day = e; second = r }

-- a stretch of the day is one of moments, as long as the clock goes on
pub stays_for : (c : Config) (period : PeriodId) (worked : Worked) (before : ℕ → Bool) (zone : Zone) (t until end at : ℕ) (d : ℤ) (s : ℕ) (holds : Bool) → IsCompiled c period worked
    → d ≡ (local zone t).day → s ≡ (local zone t).second → Stays (λ k. worked_holds worked before (record { day = d; second = k })) s holds end
    → GoesOn zone t until → t < at → at ≤ until → at ≤ t + (end - s) → Stays (in_period c zone (Some period)) t holds at
stays_for c period worked before zone t until end at d s holds compiled day_is second_is stays goes_on some early inside = record {
  later = some;
  alike = λ k low high.
      sym (holds_in c zone period worked before compiled k)
      ∙ ap (worked_holds worked before) (goes_on k low (omega (arith, high, early)) ∙ moved k)
      ∙ stays.alike (s + (k - t)) (omega arith) (omega (arith, low, high, inside, stays.later));
}
  where
    moved : (k : ℕ) → later (local zone t) (k - t) ≡ record { day = d; second = s + (k - t) }
    moved k = ap₂ (λ (e : ℤ) (r : ℕ). the_local e r) (sym day_is) (ap (λ (n : ℕ). n + (k - t)) (sym second_is))
      where
        the_local : ℤ → ℕ → Local
        the_local e r = record { day = e; second = r }
