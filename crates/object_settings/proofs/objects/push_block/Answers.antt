use Rattle.std.proofs.Common.{get_or}
use Rattle.std.proofs.lemmas.Option.{slice_get-get_or}
use Rattle.object_settings.proofs.ObjectLemmas.{services-all, services-more, services-none}
use Rattle.object_settings.proofs.objects.push_block.Goals as goal

pub loop-host-init : goal.loop-host-init
loop-host-init c = services-none c.args.owns.now c.args.own.now c.args.objects.now.items

pub loop-host-preserved : goal.loop-host-preserved
loop-host-preserved c =
    services-more c.args.owns.now c.args.own.now _ c.args.hosts.now c.loop-host.host-index 0 c.in_ok-object.object
    c.args.objects.now.items c.loop-host.objects.items c.push.new.self.items c.loop-host-test.true
    (slice_get-get_or c.args.owns.now (get_or c.args.hosts.now c.loop-host.host-index 0) _ (c.requires.within c.loop-host.host-index 0 c.loop-host-test.true))
    c.in_ok-object.ensures.host c.in_ok-object.ensures.taken c.loop-host.invariant c.in_ok-push.ensures.items

pub returns : goal.returns
returns c = services-all c.args.owns.now c.args.own.now c.args.hosts.now c.loop-host.host-index c.args.objects.now.items c.loop-host.objects.items c.loop-host-test.false c.loop-host.invariant
