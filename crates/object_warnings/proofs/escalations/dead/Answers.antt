use Rattle.object_warnings.specs.Escalations.{is_dead_at}
use Rattle.object_warnings.proofs.NumberLemmas.{one-more}
use Rattle.object_warnings.proofs.escalations.dead.Goals as goal

pub loop-place-preserved : goal.loop-place-preserved
loop-place-preserved c =
    one-more (is_dead_at c.args.config.now) c.loop-place.place c.loop-place.found.items _ c.is_dead_at.result
    c.loop-place.invariant c.in_ok-push_where.ensures c.is_dead_at.ensures
