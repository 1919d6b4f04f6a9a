-- A walk from second to second finds the first moment that passes.
use Rattle.std.proofs.Common.{◌≡◌, ℕ, zero, suc, ◌+◌, ◌-◌, ◌<◌, ◌≤◌, Bool, true, false, Option, None, Some, refl, ap, ◌∙◌, arith}
use Rattle.due_model.specs.declared.config.Config.{Config}
use Rattle.due_model.specs.declared.config.PeriodId.{PeriodId}
use Rattle.due_model.specs.declared.zone.Zone.{Zone}
use Rattle.due_model.specs.claims.Periods.{first_passing, in_period, next_in, reach_of_next}

-- what is left to look at, from a moment on, up to the end
abbrev pub IsLeft : (ℕ → Bool) → (t at : ℕ) → Type 0
IsLeft test t at = first_passing test (reach_of_next + 1) t ≡ first_passing test (t + (reach_of_next + 1) - at) at

module _ (test : ℕ → Bool) where
  one_more : (n at : ℕ) → first_passing test (suc n) at ≡ elim (test at) as (λ _. Option ℕ) [ true ↦ Some at | false ↦ first_passing test n (at + 1) ]
  unfolding first_passing
  one_more n at = refl

  now_or_later : (n at : ℕ) (b : Bool) → 0 < n → test at ≡ b → first_passing test n at ≡ elim b as (λ _. Option ℕ) [ true ↦ Some at | false ↦ first_passing test (n - 1) (at + 1) ]
  now_or_later zero at b h e = absurd (omega (arith, h))
  now_or_later (suc n) at b h e = one_more n at ∙ ap (λ (b : Bool). elim b as (λ _. Option ℕ) [ true ↦ Some at | false ↦ first_passing test n (at + 1) ]) e
      ∙ ap (λ (m : ℕ). elim b as (λ _. Option ℕ) [ true ↦ Some at | false ↦ first_passing test m (at + 1) ]) (omega arith)

  none_left : (at : ℕ) → first_passing test 0 at ≡ None
  unfolding first_passing
  none_left at = refl

  pub walk_begins : (t : ℕ) → IsLeft test t t
  walk_begins t = ap (λ n. first_passing test n t) (omega arith)

  pub walk_goes_on : (t at : ℕ) → at < t + (reach_of_next + 1) → test at ≡ false → IsLeft test t at → IsLeft test t (at + 1)
  walk_goes_on t at within e left =
      left ∙ now_or_later (t + (reach_of_next + 1) - at) at false (omega (arith, within)) e ∙ ap (λ n. first_passing test n (at + 1)) (omega (arith, within))

  pub walk_finds : (t at : ℕ) → at < t + (reach_of_next + 1) → test at ≡ true → IsLeft test t at → first_passing test (reach_of_next + 1) t ≡ Some at
  walk_finds t at within e left = left ∙ now_or_later (t + (reach_of_next + 1) - at) at true (omega (arith, within)) e

  pub walk_ends : (t at : ℕ) → t + (reach_of_next + 1) ≤ at → IsLeft test t at → first_passing test (reach_of_next + 1) t ≡ None
  walk_ends t at past left = left ∙ ap (λ n. first_passing test n at) (omega (arith, past)) ∙ none_left at

pub next_is : (c : Config) (zone : Zone) (period : Option PeriodId) (t : ℕ) → first_passing (in_period c zone period) (reach_of_next + 1) t ≡ next_in c zone period t
unfolding next_in
next_is c zone period t = refl
