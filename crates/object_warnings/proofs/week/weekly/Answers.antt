use Rattle.std.proofs.Common.{◌≡◌, All, length, subst, sym}
use Rattle.std.proofs.lemmas.List.Elements.{All-weaker}
use Rattle.due_model.specs.claims.Accepted.{PeriodFits}
use Rattle.due_model.specs.declared.config.Period.{Period}
use Rattle.object_warnings.proofs.week.weekly.Goals as goal

pub plain_periods-requires : goal.plain_periods-requires
plain_periods-requires c =
    subst (All (λ (p : Period). length p.days ≡ 7)) (sym c.as_slice.ensures)
    (All-weaker (PeriodFits c.args.config.now) (λ (p : Period). length p.days ≡ 7) (λ p fits. fits.week) c.args.config.now.periods c.requires.periods)
