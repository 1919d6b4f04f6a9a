use Rattle.object_reached.proofs.ReachedLemmas.{after-more}
use Rattle.object_reached.proofs.reached.number_after.Goals as goal

pub loop-service-preserved : goal.loop-service-preserved
loop-service-preserved c = λ few.
    after-more c.args.hosts c.args.services.now c.loop-service.services c.loop-service.service-index c.saturating_add.result c.loop-service-test.true
    (few c.loop-service.service-index 0 c.loop-service-test.true) (c.loop-service.invariant few) c.saturating_add.ensures
