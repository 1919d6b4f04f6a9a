use Rattle.object_warnings.specs.Objects.{tells_nobody_at}
use Rattle.object_warnings.proofs.NumberLemmas.{one-more}
use Rattle.object_warnings.proofs.objects.untold.Goals as goal

pub loop-number-preserved : goal.loop-number-preserved
loop-number-preserved c =
    one-more (tells_nobody_at c.args.config.now) c.loop-number.number c.loop-number.found.items _ c.tells_nobody_at.result
    c.loop-number.invariant c.in_ok-push_where.ensures c.tells_nobody_at.ensures
