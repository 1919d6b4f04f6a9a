use Rattle.std.proofs.Common.{ℕ, ◌∙◌, subst, ap, take, get_or, arith}
use Rattle.due_model.specs.declared.config.PeriodId.{PeriodId}
use Rattle.time_period.specs.claims.Days.{holds_at}
use Rattle.time_period.specs.Days.{holds_any}
use Rattle.time_period.specs.claims.Steps.{Own}
use Rattle.time_period.specs.Steps.{nothing, own_at}
use Rattle.time_period.specs.Stretches.{Stays}
use Rattle.time_period.proofs.DayLemmas.{any_more, found_at}
use Rattle.time_period.proofs.made_day.excluded.Goals as goal

pub loop-period-preserved : goal.loop-period-preserved
loop-period-preserved c =
    let excludes = c.args.excludes.now in
    let done = c.args.done.now in
    let i = c.loop-period.period-index in
    let d : PeriodId = record { 0 = 0 } in
    let known = c.requires.known i d c.loop-period-test.true in
    let is = found_at done c.from.result c.index-done-from.result nothing (omega (arith, known, c.from.ensures)) c.index-done-from.is
    ∙ ap (λ (n : ℕ). own_at done n) c.from.ensures in
    any_more excludes done c.args.weekday i d c.args.second c.or-stretch.result.holds c.or-stretch.result.end c.loop-period-test.true
    (c.or-stretch.ensures (λ k. holds_any (take i excludes) done c.args.weekday k) (λ k. holds_at (own_at done (get_or excludes i d).0).days c.args.weekday k) c.args.second
    c.loop-period.invariant (subst (λ (own : Own). Stays (holds_at own.days c.args.weekday) c.args.second c.on_weekday.result.holds c.on_weekday.result.end) is c.on_weekday.ensures))
