use Rattle.std.proofs.Common.{◌≤◌, ◌+◌, arith, length, refl}
use Rattle.std.proofs.lemmas.Option.{slice_get_read}
use Rattle.object_resolve.proofs.AskedLemmas.{flags-more, service-fits, services-more}
use Rattle.object_resolve.proofs.asked.asked_of.Goals as goal

pub overflow_add-services : goal.overflow_add-services
overflow_add-services c =
    let low : c.loop-place.services + c.service_count-services.result ≤ length c.args.blocks.now =
    service-fits c.args.blocks.now c.args.hosts.now c.args.escalated.now c.loop-place.place c.loop-place.services c.service_count-services.result (length c.args.blocks.now) c.is_object-service.result
    c.service_count-services.ensures c.loop-place.invariant.counted c.loop-place-test.true in
    omega (arith, low)

pub loop-place-preserved : goal.loop-place-preserved
loop-place-preserved c =
    let blocks = c.args.blocks.now in
    let i = c.loop-place.place in
    let x = c.index-blocks-place.result in
    let here = slice_get_read blocks (length blocks) i x refl c.loop-place-test.true c.index-blocks-place.is in
    record {
      flags = flags-more blocks c.args.hosts.now c.args.escalated.now i c.loop-place.services x c.is_object-host.result c.is_object-service.result c.gives_any-gives.result
          c.hosts.result.now c.objects.result.now c.loop-place.asked.items c.push.new.self.items here c.is_object-host.ensures c.is_object-service.ensures c.hosts.ensures c.objects.ensures
          c.gives_any-gives.ensures c.loop-place.invariant.counted c.loop-place.invariant.flags c.in_ok-push.ensures.items;
      counted = services-more blocks c.args.hosts.now c.args.escalated.now i c.loop-place.services (c.loop-place.services + c.service_count-services.result) c.service_count-services.result x
          c.is_object-service.result here c.is_object-service.ensures c.service_count-services.ensures refl c.loop-place.invariant.counted;
    }
