use Rattle.std.proofs.Common.{sym, subst}
use Rattle.time_period.specs.Ranges.{IsDay}
use Rattle.time_period.proofs.StretchLemmas.{day_found}
use Rattle.time_period.proofs.step.days_stretch.Goals as goal

pub stretch_in-requires-clause-day : goal.stretch_in-requires-clause-day
stretch_in-requires-clause-day c =
    let look = c.in-Some.ensures.lookup in
    subst IsDay (sym c.as_slice.ensures) (day_found c.args.days.now c.from.result c.in-Some.day.now c.requires.sorted look.3.0 look.1)
