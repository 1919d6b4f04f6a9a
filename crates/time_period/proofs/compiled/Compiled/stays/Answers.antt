use Rattle.std.proofs.Common.{arith}
use Rattle.time_period.specs.Flags.{flag_at}
use Rattle.time_period.proofs.WalkLemmas.{stays_for}
use Rattle.time_period.proofs.compiled.Compiled.stays.Goals as goal

pub returns-clause-stays : goal.returns-clause-stays
returns-clause-stays c config period compiled =
    stays_for config period c.args.self.now (flag_at c.args.flags.now) c.args.zone.now c.args.t c.goes_on_until.result c.stretch_at-stretch.result.end c.min.result
    c.local_time-local.result.day c.local_time-local.result.second _ compiled c.local_time-local.ensures.day c.local_time-local.ensures.second c.stretch_at-stretch.ensures.stretch
    c.goes_on_until.ensures.goes_on
    (omega (arith, c.min.ensures, c.goes_on_until.ensures.later, c.from-left.ensures, c.stretch_at-stretch.ensures.stretch.later))
    (omega (arith, c.min.ensures))
    (omega (arith, c.min.ensures, c.from-left.ensures))

pub returns-clause-later : goal.returns-clause-later
returns-clause-later c = omega (arith, c.min.ensures, c.goes_on_until.ensures.later, c.from-left.ensures, c.stretch_at-stretch.ensures.stretch.later)
