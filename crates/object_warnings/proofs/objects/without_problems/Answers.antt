use Rattle.object_warnings.specs.Objects.{lacks_problems_at}
use Rattle.object_warnings.proofs.NumberLemmas.{one-more}
use Rattle.object_warnings.proofs.objects.without_problems.Goals as goal

pub loop-number-preserved : goal.loop-number-preserved
loop-number-preserved c =
    one-more (lacks_problems_at c.args.config.now) c.loop-number.number c.loop-number.found.items _ c.lacks_problems_at.result
    c.loop-number.invariant c.in_ok-push_where.ensures c.lacks_problems_at.ensures
