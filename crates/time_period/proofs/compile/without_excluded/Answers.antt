use Rattle.std.proofs.Common.{◌≡◌, ◌+◌, ◌∙◌, List, ap, arith, get_or, subst, sym, ℕ}
use Rattle.due_model.specs.declared.config.PeriodId.{PeriodId}
use Rattle.due_model.specs.declared.config.Range.{Range}
use Rattle.due_model.specs.claims.Periods.{weekly_ranges}
use Rattle.time_period.specs.Days.{AreWorkedOut, IsDayOf, holds_without}
use Rattle.time_period.proofs.DayLemmas.{on_weekday, worked_out_more}
use Rattle.time_period.proofs.compile.without_excluded.Goals as goal

pub loop-weekday-preserved : goal.loop-weekday-preserved
loop-weekday-preserved c =
    let period = c.args.period.now in
    let done = c.args.done.now in
    let weekday = c.loop-weekday.weekday in
    let found = c.index-period-from.result in
    let is = c.index-period-from.is ∙ ap (λ (n : ℕ). get_or period.days n found) c.from.ensures in
    let own : c.as_slice-own.result.now ≡ weekly_ranges period weekday = c.as_slice-own.ensures ∙ sym c.index-period-from.is ∙ sym (on_weekday period weekday found (omega (arith, c.requires.week, c.loop-weekday-test.true)) is) in
    let day = subst (λ (ranges : List Range). IsDayOf (holds_without ranges c.as_slice.result.now done weekday) c.in_ok-day.day.items) own c.in_ok-day.ensures in
    let right = subst (λ (excludes : List PeriodId). IsDayOf (holds_without (weekly_ranges period weekday) excludes done weekday) c.in_ok-day.day.items) c.as_slice.ensures day in
    subst (AreWorkedOut period done (weekday + 1)) (sym c.in_ok-push.ensures.items)
    (worked_out_more period done weekday c.loop-weekday.days.items c.new.result c.loop-weekday.invariant (subst (IsDayOf (holds_without (weekly_ranges period weekday) period.excludes done weekday)) (sym c.new.ensures) right))
