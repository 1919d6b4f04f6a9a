use Rattle.std.proofs.Common.{◌+◌}
use Rattle.object_groups.specs.declared.lists.Direction.TheVariants.{ToNames}
use Rattle.object_groups.specs.ListEdges.{between}
use Rattle.object_dependency_loops.proofs.ReachLemmas.{ends-more}
use Rattle.object_dependency_loops.proofs.described.push_services.Goals as goal

pub loop-service-preserved : goal.loop-service-preserved
loop-service-preserved c =
    ends-more (between ToNames c.args.node) (λ service. c.args.first + service) c.args.edges.now.items c.loop-service.edges.items _ c.args.services.now c.loop-service.service-index 0
    c.loop-service-test.true c.loop-service.invariant c.in_ok-push.ensures.items
