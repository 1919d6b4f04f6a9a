use Rattle.object_warnings.specs.Periods.{is_partial_at}
use Rattle.object_warnings.proofs.NumberLemmas.{one-more}
use Rattle.object_warnings.proofs.periods.without_zone.Goals as goal

pub loop-number-preserved : goal.loop-number-preserved
loop-number-preserved c =
    one-more (is_partial_at c.args.config.now) c.loop-number.number c.loop-number.found.items _ c.is_partial_at.result
    c.loop-number.invariant c.in_ok-push_where.ensures c.is_partial_at.ensures
