use Rattle.std.proofs.Common.{◌≡◌, ◌∙◌, List, ap, arith, get_or, length, ℕ}
use Rattle.std.proofs.lemmas.Slice.Zip.{AllZip-long}
use Rattle.object_groups.specs.claims.Objects.{names_in, objects_in}
use Rattle.object_groups.specs.Objects.{ObjectsOf}
use Rattle.object_reader.specs.declared.block.BlockKind.TheVariants.{Service}
use Rattle.object_services.specs.claims.Hosts.{AreHosts}
use Rattle.object_settings.proofs.ObjectLemmas.{block-hosts, named-at, objects-all, objects-more, objects-none, service-asked}
use Rattle.object_values.specs.declared.options.OptionKind.TheVariants as lists
use Rattle.object_settings.proofs.objects.push_services.Goals as goal

pub loop-number-init : goal.loop-number-init
loop-number-init c = record {
  objects = objects-none c.args.tables.now.blocks c.args.objects.now.items;
  read = c.in_ok-read.ensures lists.Service;
}

pub push_services_at-requires-clause-named : goal.push_services_at-requires-clause-named
push_services_at-requires-clause-named c =
    let listed = c.places-place-items.ensures.places ∙ ap (λ (o : ObjectsOf). objects_in o.blocks o.kind) c.requires.services in
    named-at c.args.tables.now.blocks Service c.places-place-items.result.now c.names.result.now c.loop-number.number 0 c.name-name.result.now listed c.loop-number-test.true
    (c.names.ensures.names ∙ ap (λ (o : ObjectsOf). names_in o.blocks o.kind) c.requires.services) c.name-name.ensures

pub push_services_at-requires-clause-asked : goal.push_services_at-requires-clause-asked
push_services_at-requires-clause-asked c some =
    let listed = c.places-place-items.ensures.places ∙ ap (λ (o : ObjectsOf). objects_in o.blocks o.kind) c.requires.services in
    service-asked c.args.tables.now.blocks c.args.tables.now.asked c.places-place-items.result.now c.args.lists.now c.loop-number.number 0 c.hosts-hosts.result.now listed c.loop-number-test.true
    c.requires.asked c.hosts-hosts.ensures some

pub push_services_at-requires-clause-hosts : goal.push_services_at-requires-clause-hosts
push_services_at-requires-clause-hosts c =
    let listed = c.places-place-items.ensures.places ∙ ap (λ (o : ObjectsOf). objects_in o.blocks o.kind) c.requires.services in
    block-hosts c.args.tables.now.blocks c.places-place-items.result.now c.args.lists.now c.loop-number.number 0 c.hosts-hosts.result.now listed c.loop-number-test.true c.requires.lists c.hosts-hosts.ensures

pub loop-number-preserved : goal.loop-number-preserved
loop-number-preserved c =
    let blocks = c.args.tables.now.blocks in
    let listed = c.places-place-items.ensures.places ∙ ap (λ (o : ObjectsOf). objects_in o.blocks o.kind) c.requires.services in
    record {
      objects = objects-more blocks c.args.lists.now c.loop-number.number (get_or c.places-place-items.result.now c.loop-number.number 0) c.hosts-hosts.result.now
          c.args.objects.now.items c.loop-number.objects.items c.push_services_at.new.objects.items
          (ap (λ (ps : List ℕ). get_or ps c.loop-number.number 0) listed) c.hosts-hosts.ensures c.loop-number.invariant.objects c.in_ok-push_services_at.ensures.objects;
      read = c.push_services_at.ensures.read;
    }

pub returns : goal.returns
returns c =
    let blocks = c.args.tables.now.blocks in
    let listed = c.places-place-items.ensures.places ∙ ap (λ (o : ObjectsOf). objects_in o.blocks o.kind) c.requires.services in
    let long = ap (λ (ps : List ℕ). length ps) listed in
    let lists = AllZip-long (AreHosts blocks) (objects_in blocks Service) c.args.lists.now c.requires.lists in
    let end : c.loop-number.number ≡ length c.args.lists.now = omega (arith, long, lists, c.loop-number.auto.number-end, c.loop-number-test.false) in
    objects-all blocks c.args.lists.now c.loop-number.number c.args.objects.now.items c.loop-number.objects.items end c.loop-number.invariant.objects
