use Rattle.object_warnings.specs.Criteria.{lacks_criteria_at}
use Rattle.object_warnings.proofs.NumberLemmas.{one-more}
use Rattle.std.proofs.Common.{List, ap, ◌∙◌}
use Rattle.object_reader.specs.declared.block.Block.{Block}
use Rattle.object_warnings.proofs.criteria.without_criteria.Goals as goal

pub loop-place-preserved : goal.loop-place-preserved
loop-place-preserved c =
    one-more (lacks_criteria_at c.args.templates.now) c.loop-place.place c.loop-place.found.items _ c.lacks_criteria_at.result
    c.loop-place.invariant c.in_ok-push_where.ensures
    (c.lacks_criteria_at.ensures ∙ ap (λ (blocks : List Block). lacks_criteria_at blocks c.loop-place.place) c.blocks-blocks.ensures.value)
