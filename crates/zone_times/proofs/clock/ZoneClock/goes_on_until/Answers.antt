use Rattle.std.proofs.Common.{◌+◌, ◌<◌, arith}
use Rattle.due_model.specs.claims.Limits.{day}
use Rattle.due_model.specs.claims.Local.{local}
use Rattle.zone_times.proofs.ClockLemmas.{goes_on_in_day}
use Rattle.zone_times.proofs.clock.ZoneClock.goes_on_until.Goals as goal

pub returns-clause-goes_on : goal.returns-clause-goes_on
returns-clause-goes_on c =
    let same = c.local_time-left.ensures.second in
    let in_day : (local c.args.self.now c.args.t).second < day = omega (arith, same, c.local_time-left.result.in_day) in
    goes_on_in_day c.args.self.now c.args.t c.min.result (c.args.t + c.from.result) (omega (arith, same, c.from.ensures)) in_day (omega (arith, c.min.ensures))
    (λ k low high. c.offset_until.ensures.steady k low (omega (arith, high, c.min.ensures)))
