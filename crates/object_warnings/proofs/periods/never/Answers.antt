use Rattle.object_warnings.specs.Periods.{never_holds}
use Rattle.object_warnings.proofs.NumberLemmas.{one-more}
use Rattle.object_warnings.proofs.periods.never.Goals as goal

pub loop-number-preserved : goal.loop-number-preserved
loop-number-preserved c config are =
    one-more (never_holds config c.args.zone.now c.args.t) c.loop-number.number c.loop-number.found.items _ c.never_holds.result
    (c.loop-number.invariant config are) c.in_ok-push_where.ensures (c.never_holds.ensures config are)
