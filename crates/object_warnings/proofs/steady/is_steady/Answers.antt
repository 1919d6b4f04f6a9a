use Rattle.std.proofs.Common.{refl}
use Rattle.object_warnings.proofs.SteadyLemmas.{steady-is}
use Rattle.object_warnings.proofs.steady.is_steady.Goals as goal

pub returns-then-are_of_one_day : goal.returns-then-are_of_one_day
returns-then-are_of_one_day c is =
    steady-is c.args.periods.now c.args.clock.now c.args.one c.args.other c.local_time-before.result.weekday c.local_time-now.result.weekday c.local_time-before.result.second
    c.local_time-now.result.second c.local_time-before.ensures.weekday c.local_time-now.ensures.weekday c.local_time-before.ensures.second c.local_time-now.ensures.second
    (c.if-are_of_one_day.ensures refl) (c.all_keep.ensures is)
