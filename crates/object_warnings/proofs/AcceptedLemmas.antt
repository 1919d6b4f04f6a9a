-- Periods without their dated lines are those of a configuration that is accepted.
use Rattle.std.proofs.Common.{◌≡◌, ℕ, suc, ◌<◌, List, [], length, All, Contains, Option, None, Some, refl, sym, ap, subst, ◌∙◌, arith}
use Rattle.std.specs.Prelude.{slice_get}
use Rattle.std.specs.Option.{option_map}
use Rattle.std.proofs.lemmas.List.{length-map}
use Rattle.std.proofs.lemmas.List.Elements.{All-map, All-weaker}
use Rattle.std.proofs.lemmas.Option.{none-some, same_Some, slice_get-map}
use Rattle.lemmas.proofs.Chains.{Chain-map}
use Rattle.due_model.specs.claims.Accepted.{DependsOn, Excludes, IsAccepted, PeriodFits}
use Rattle.due_model.specs.declared.config.Config.{Config}
use Rattle.due_model.specs.declared.config.Period.{Period}
use Rattle.due_model.specs.declared.config.PeriodId.{PeriodId}
use Rattle.object_warnings.specs.Hours.{plain, weekly}

none-of : {X : Type 0} (P : X → Type 0) → All P []
none-of P k d within = absurd (omega (arith, within))

-- a copy is one of a period
unplain : (found : Option Period) (period : Period) → option_map plain found ≡ Some period → (one : Period) × (found ≡ Some one) × (period.excludes ≡ one.excludes)
unplain None period is = absurd (none-some period is)
unplain (Some one) period is = (one, refl, sym (ap (λ (p : Period). p.excludes) (same_Some (plain one) period is)))

module _ (c : Config) (accepted : IsAccepted c) where
  as_many : length (weekly c).periods ≡ length c.periods
  as_many = length-map c.periods plain

  plain-fits : (period : Period) → PeriodFits c period → PeriodFits (weekly c) (plain period)
  plain-fits period fits = record {
    week = fits.week;
    ranges = fits.ranges;
    dated = none-of _;
    excludes = All-weaker (λ (q : PeriodId). q.0 < length c.periods) (λ (q : PeriodId). q.0 < length (weekly c).periods)
        (λ q within. let many = as_many in omega (arith, many, within)) period.excludes fits.excludes;
  }

  excludes-too : (p q : ℕ) → Excludes (weekly c) p q → Excludes c p q
  excludes-too p q e =
      let found = unplain (slice_get c.periods p) e.0 (sym (slice_get-map plain c.periods p) ∙ e.1) in
      (found.0, found.1, subst (λ (list : List PeriodId). Contains list (record { 0 = q })) found.2 e.2)

  depends-not : (p q : ℕ) → DependsOn (weekly c) p q → ⊥
  depends-not p q d = let within = d.1.1 in absurd (omega (arith, within))

  pub weekly-accepted : IsAccepted (weekly c)
  weekly-accepted = record {
    few_objects = omega arith;
    few_contacts = omega arith;
    few_lanes = omega arith;
    few_periods = let many = as_many in let few = accepted.few_periods in omega (arith, many, few);
    few_escalations = omega arith;
    few_dependencies = omega arith;
    objects = none-of _;
    contacts = none-of _;
    periods = All-map (PeriodFits (weekly c)) plain c.periods (All-weaker (PeriodFits c) (λ (p : Period). PeriodFits (weekly c) (plain p)) plain-fits c.periods accepted.periods);
    escalations = none-of _;
    dependencies = none-of _;
    no_period_loop = λ steps p chain. accepted.no_period_loop steps p (Chain-map (Excludes (weekly c)) (Excludes c) excludes-too (suc steps) p p chain);
    no_dependency_loop = λ steps p chain. depends-not p chain.0 chain.1;
  }
