use Rattle.std.proofs.Common.{Bool, List, sym, subst, ap, ◌∙◌}
use Rattle.slow_rules.specs.Flags.{flag_at}
use Rattle.slow_rules.specs.Rounds.{ArePeriodsAt}
use Rattle.slow_rules.proofs.dependencies.dependency_fails.Goals as goal

pub returns : goal.returns
returns c =
    c.flag_at.ensures ∙ ap (λ (xs : List Bool). flag_at xs c.args.object.0) c.as_slice-2.ensures.value
    ∙ c.in_ok-flags.ensures c.args.zone.now c.args.t
    (subst (λ (xs : List Bool). ArePeriodsAt c.args.config.now c.args.zone.now c.args.t xs) (sym c.as_slice.ensures.value) c.in_ok-periods.ensures) c.args.object.0
