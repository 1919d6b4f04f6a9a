use Rattle.object_groups.specs.ListEdges.{edge}
use Rattle.object_service_groups.proofs.NumberLemmas.{edges-more}
use Rattle.object_service_groups.proofs.members.push_services.Goals as goal

pub loop-service-preserved : goal.loop-service-preserved
loop-service-preserved c =
    edges-more (edge c.args.from) c.args.edges.now.items c.loop-service.edges.items _ c.args.services.now c.loop-service.service-index 0 c.loop-service-test.true c.loop-service.invariant c.in_ok-push.ensures.items
