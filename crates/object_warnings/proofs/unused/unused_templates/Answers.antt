use Rattle.object_warnings.specs.Unused.{is_unused_template}
use Rattle.object_warnings.proofs.NumberLemmas.{one-more}
use Rattle.object_warnings.proofs.unused.unused_templates.Goals as goal

pub loop-place-preserved : goal.loop-place-preserved
loop-place-preserved c =
    one-more (is_unused_template c.args.blocks.now c.args.kind) c.loop-place.place c.loop-place.found.items _ c.is_unused_template.result
    c.loop-place.invariant c.in_ok-push_where.ensures c.is_unused_template.ensures
