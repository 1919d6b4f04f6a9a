use Rattle.std.proofs.Common.{arith}
use Rattle.object_periods.specs.claims.Periods.{ranges_at}
use Rattle.object_periods.proofs.DayLemmas.{days-are}
use Rattle.object_periods.proofs.days.Week.at.Goals as goal

pub returns : goal.returns
returns c = days-are (ranges_at c.args.self.now c.args.place) c.loop-weekday.days c.loop-weekday.invariant.long
    (λ k low. c.loop-weekday.invariant.done k (omega (arith, low, c.loop-weekday-test.false)))
