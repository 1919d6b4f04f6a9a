use Rattle.object_values.specs.Values.{texts}
use Rattle.object_warnings.proofs.UnusedLemmas.{named-more}
use Rattle.object_warnings.proofs.unused.named_by_rows.Goals as goal

pub loop-block-preserved : goal.loop-block-preserved
loop-block-preserved c =
    named-more c.args.kind c.args.blocks.now c.loop-block.block-index c.block-item.result (texts c.loop-block.names.items) _ _ c.loop-block-test.true c.block-item.is c.loop-block.invariant
    c.in_ok-push_named.ensures (c.requires c.block-item.result)
