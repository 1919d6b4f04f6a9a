use Rattle.std.proofs.Common.{sym, subst}
use Rattle.time_period.specs.Days.{IsMade, holds_without}
use Rattle.time_period.proofs.DayLemmas.{made_more}
use Rattle.time_period.proofs.made_day.without.Goals as goal

pub loop-start-preserved : goal.loop-start-preserved
loop-start-preserved c =
    let test = holds_without c.args.own.now c.args.excludes.now c.args.done.now c.args.weekday in
    let from = c.stays_until-end.ensures in
    let to = c.stays_until-start-in-loop-start.ensures in
    subst (IsMade test c.stays_until-start-in-loop-start.result) (sym c.in_ok-push.ensures.items)
    (made_more test c.loop-start.start c.stays_until-end.result c.stays_until-start-in-loop-start.result c.loop-start.day.items c.loop-start.invariant c.loop-start-test.true
    from.low from.alike from.high from.over to.low to.alike to.high to.over)
