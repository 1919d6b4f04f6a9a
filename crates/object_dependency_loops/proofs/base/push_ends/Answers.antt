use Rattle.std.proofs.Common.{◌+◌}
use Rattle.object_groups.specs.declared.lists.Direction.TheVariants.{ToNames}
use Rattle.object_groups.specs.ListEdges.{between}
use Rattle.object_dependency_loops.proofs.ReachLemmas.{ends-more}
use Rattle.object_dependency_loops.proofs.base.push_ends.Goals as goal

pub loop-end-preserved : goal.loop-end-preserved
loop-end-preserved c =
    ends-more (between ToNames c.args.node) (λ end. c.args.by + end) c.args.edges.now.items c.loop-end.edges.items _ c.args.ends.now c.loop-end.end-index 0 c.loop-end-test.true
    c.loop-end.invariant c.in_ok-push.ensures.items
