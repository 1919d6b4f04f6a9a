use Rattle.std.proofs.Common.{◌≡◌, length, subst, sym}
use Rattle.due_model.specs.declared.config.Period.{Period}
use Rattle.object_warnings.proofs.week.plain_periods.Goals as goal

pub plain-requires : goal.plain-requires
plain-requires c =
    subst (λ (period : Period). length period.days ≡ 7) (sym c.period-item.is) (c.requires c.loop-period.period-index c.period-item.result c.loop-period-test.true)
