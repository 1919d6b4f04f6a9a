-- The first moment that passes, among so many.
use Rattle.std.proofs.Common.{◌≡◌, ℕ, zero, suc, ◌+◌, ◌<◌, ◌≤◌, Bool, true, false, Option, None, Some, MatchOption, refl, ap, ◌∙◌, arith, ⊎_elim}
use Rattle.std.proofs.lemmas.Bool.{cases_eq}
use Rattle.due_model.specs.declared.config.Config.{Config}
use Rattle.due_model.specs.declared.config.PeriodId.{PeriodId}
use Rattle.due_model.specs.declared.zone.Zone.{Zone}
use Rattle.due_model.specs.claims.Periods.{in_period, reach_of_next, first_passing, next_in}
use Rattle.due_laws.specs.Periods.{IsNext}

record IsFirst (passes : ℕ → Bool) (count t m : ℕ) : Type 0 where
  pub low : t ≤ m
  pub high : m < t + count
  pub passing : passes m ≡ true
  pub least : (k : ℕ) → t ≤ k → k < m → passes k ≡ false

abbrev NonePasses : (ℕ → Bool) → (count t : ℕ) → Type 0
NonePasses passes count t = (k : ℕ) → t ≤ k → k < t + count → passes k ≡ false

-- one moment more, which doesn't pass
later_first : (passes : ℕ → Bool) (count t m : ℕ) → passes t ≡ false → IsFirst passes count (t + 1) m → IsFirst passes (suc count) t m
later_first passes count t m fails h = record {
  low = omega (arith, h.low);
  high = omega (arith, h.high);
  passing = h.passing;
  least = λ k low high. ⊎_elim (λ (same : k ≡ t). ap passes same ∙ fails) (λ (other : k ≡ t → ⊥). h.least k (omega (arith, low, other)) high) (cases_eq k t);
}

later_none : (passes : ℕ → Bool) (count t : ℕ) → passes t ≡ false → NonePasses passes count (t + 1) → NonePasses passes (suc count) t
later_none passes count t fails h =
    λ k low high. ⊎_elim (λ (same : k ≡ t). ap passes same ∙ fails) (λ (other : k ≡ t → ⊥). h k (omega (arith, low, other)) (omega (arith, high))) (cases_eq k t)

later : (passes : ℕ → Bool) (count t : ℕ) (found : Option ℕ) → passes t ≡ false → MatchOption found (NonePasses passes count (t + 1)) (IsFirst passes count (t + 1))
    → MatchOption found (NonePasses passes (suc count) t) (IsFirst passes (suc count) t)
later passes count t None fails h = later_none passes count t fails h
later passes count t (Some m) fails h = later_first passes count t m fails h

by_test : (passes : ℕ → Bool) (count t : ℕ) (b : Bool) → passes t ≡ b
    → MatchOption (first_passing passes count (t + 1)) (NonePasses passes count (t + 1)) (IsFirst passes count (t + 1))
    → MatchOption (elim b as (λ _. Option ℕ) [ true ↦ Some t | false ↦ first_passing passes count (t + 1) ]) (NonePasses passes (suc count) t) (IsFirst passes (suc count) t)
by_test passes count t true is h = record { low = omega arith; high = omega arith; passing = is; least = λ k low high. absurd (omega (arith, low, high)) }
by_test passes count t false is h = later passes count t (first_passing passes count (t + 1)) is h

first_found : (passes : ℕ → Bool) (count t : ℕ) → MatchOption (first_passing passes count t) (NonePasses passes count t) (IsFirst passes count t)
unfolding first_passing
first_found passes zero t = λ k low high. absurd (omega (arith, low, high))
first_found passes (suc count) t = by_test passes count t (passes t) refl (first_found passes count (t + 1))

next_of : (c : Config) (zone : Zone) (period : Option PeriodId) (t : ℕ) (found : Option ℕ)
    → MatchOption found (NonePasses (in_period c zone period) (reach_of_next + 1) t) (IsFirst (in_period c zone period) (reach_of_next + 1) t)
    → MatchOption found ((k : ℕ) → t ≤ k → k ≤ t + 34_560_000 → in_period c zone period k ≡ false) (IsNext c zone period t)
next_of c zone period t None h = λ k low high. h k low (omega (arith, high))
next_of c zone period t (Some m) h = record { no_sooner = h.low; within = omega (arith, h.high); holds = h.passing; least = h.least }

pub next_least : (c : Config) (zone : Zone) (period : Option PeriodId) (t : ℕ)
    → MatchOption (next_in c zone period t) ((k : ℕ) → t ≤ k → k ≤ t + 34_560_000 → in_period c zone period k ≡ false) (IsNext c zone period t)
unfolding next_in
next_least c zone period t = next_of c zone period t (first_passing (in_period c zone period) (reach_of_next + 1) t) (first_found (in_period c zone period) (reach_of_next + 1) t)
