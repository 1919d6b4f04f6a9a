-- Configurations whose order shows that nothing loops are accepted.
use Rattle.std.proofs.Common.{◌≡◌, ℕ, zero, suc, ◌+◌, ◌<◌, ◌≤◌, List, length, slice_get, get_or, All, Some, inl, inr, sym, ap, ◌∙◌, subst, arith}
use Rattle.std.proofs.lemmas.List.Elements.{All-contains, All-weaker}
use Rattle.std.proofs.lemmas.Bool.{cases_eq}
use Rattle.std.proofs.lemmas.Option.{slice_get-get_or, same_Some}
use Rattle.due_model.specs.declared.config.Config.{Config}
use Rattle.due_model.specs.declared.config.Dependency.{Dependency}
use Rattle.due_model.specs.declared.config.Period.{Period}
use Rattle.due_model.specs.declared.config.PeriodId.{PeriodId}
use Rattle.due_model.specs.claims.Accepted.{Chain, ContactFits, DependencyFits, DependsOn, EscalationFits, Excludes, HasNoLoop, IsAccepted, ObjectFits, PeriodFits}
use Rattle.acceptance_inputs.specs.Ladder.{IsFall, IsFew, IsFewBesides, IsLadder, IsStep}

-- what goes down at each step never comes back
module _ (Leads : ℕ → ℕ → Type 0) (down : (p q : ℕ) → Leads p q → q < p) where
  falls : (steps p q : ℕ) → Chain Leads steps p q → q + steps ≤ p
  falls zero p q chain = omega (arith, chain)
  falls (suc steps) p q chain = omega (arith, down p chain.0 chain.1, falls steps chain.0 q chain.2)

  no_loop : HasNoLoop Leads
  no_loop steps p chain = absurd (omega (arith, falls (suc steps) p p chain))

-- one place more was looked at
pub place_more : (periods : List Period) (n : ℕ) (found : Period) → slice_get periods n ≡ Some found → IsStep n found
    → ((place : ℕ) (period : Period) → place < n → slice_get periods place ≡ Some period → IsStep place period)
    → (place : ℕ) (period : Period) → place < n + 1 → slice_get periods place ≡ Some period → IsStep place period
place_more periods n found here step before place period within at = elim (cases_eq place n) [
  | inl same ↦
      let is : found ≡ period = same_Some found period (sym here ∙ ap (slice_get periods) (sym same) ∙ at) in
      subst (λ (k : ℕ). IsStep k period) (sym same) (subst (IsStep n) is step)
  | inr other ↦ before place period (omega (arith, within, other)) at
]

-- what was looked at
pub record IsOrdered (c : Config) : Type 0 where
  pub few : IsFew c
  pub few_besides : IsFewBesides c
  pub objects : All (ObjectFits c) c.objects
  pub contacts : All (ContactFits c) c.contacts
  pub periods : IsLadder c.periods
  pub escalations : All (EscalationFits c) c.escalations
  pub dependencies : All (IsFall c) c.dependencies

module _ (c : Config) (h : IsOrdered c) where
  excluded_below : (p q : ℕ) → Excludes c p q → q < p
  excluded_below p q e = All-contains (λ (x : PeriodId). x.0 < p) e.0.excludes (record { 0 = q }) (h.periods p e.0 e.1).excludes e.2

  master_below : (p q : ℕ) → DependsOn c p q → q < p
  master_below p q e =
      let fall = All-contains (IsFall c) c.dependencies e.0 h.dependencies e.1 in
      omega (arith, fall.earlier, e.2, e.3)

  period_fits : (k : ℕ) (d : Period) → k < length c.periods → PeriodFits c (get_or c.periods k d)
  period_fits k d within =
      let step = h.periods k (get_or c.periods k d) (slice_get-get_or c.periods k d within) in
      record {
        week = step.week;
        ranges = step.ranges;
        dated = step.dated;
        excludes = All-weaker (λ (x : PeriodId). x.0 < k) (λ (x : PeriodId). x.0 < length c.periods) (λ x h. omega (arith, within, h)) (get_or c.periods k d).excludes step.excludes;
      }

  dependency_fits : (d : Dependency) → IsFall c d → DependencyFits c d
  dependency_fits d fall = record {
    dependent = fall.dependent;
    master = omega (arith, fall.dependent, fall.earlier);
    period = fall.period;
  }

  pub ordered_is_accepted : IsAccepted c
  ordered_is_accepted = record {
    few_objects = h.few.objects;
    few_contacts = h.few.contacts;
    few_lanes = h.few.lanes;
    few_periods = h.few_besides.periods;
    few_escalations = h.few_besides.escalations;
    few_dependencies = h.few_besides.dependencies;
    objects = h.objects;
    contacts = h.contacts;
    periods = period_fits;
    escalations = h.escalations;
    dependencies = All-weaker (IsFall c) (DependencyFits c) dependency_fits c.dependencies h.dependencies;
    no_period_loop = no_loop (Excludes c) excluded_below;
    no_dependency_loop = no_loop (DependsOn c) master_below;
  }
