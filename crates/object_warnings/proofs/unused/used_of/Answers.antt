use Rattle.std.proofs.Common.{rules}
use Rattle.object_warnings.specs.Unused.{used_in}
use Rattle.object_warnings.proofs.UnusedLemmas.{used-more}
use Rattle.object_warnings.proofs.unused.used_of.Goals as goal

pub loop-block-preserved : goal.loop-block-preserved
loop-block-preserved c =
    used-more (used_in c.args.kind) c.args.blocks.now c.loop-block.block-index c.block-item.result c.loop-block.names.items c.extend_from_slice.new.self.items c.in_ok-more.more.items
    c.loop-block-test.true c.block-item.is c.loop-block.invariant (search rules) c.in_ok-more.ensures
