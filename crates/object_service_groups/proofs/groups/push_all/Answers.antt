use Rattle.std.proofs.Common.{◌+◌, ◌≤◌, ◌^◌, ◌∙◌, List, ap, arith, length, refl, ℕ}
use Rattle.std.proofs.lemmas.Result.{IfOk-weaker}
use Rattle.object_groups.specs.claims.Objects.{names_in, objects_in}
use Rattle.object_groups.specs.Objects.{ObjectsOf}
use Rattle.object_reader.specs.declared.block.BlockKind.TheVariants.{Service}
use Rattle.object_services.specs.claims.Hosts.{AreHosts}
use Rattle.object_services.specs.claims.Numbers.{pairs_of}
use Rattle.object_service_groups.proofs.ElementLemmas.{all-owners, owners-long}
use Rattle.object_service_groups.proofs.GroupLemmas.{all-lead, owners-below, zip-long}
use Rattle.object_service_groups.proofs.groups.push_all.Goals as goal

pub push_owners-requires-clause-within : goal.push_owners-requires-clause-within
push_owners-requires-clause-within c =
    let lists = zip-long (AreHosts c.args.templates.now) (objects_in c.args.templates.now Service) c.args.lists.now c.requires.tables.host_lists in
    let low : c.args.middle + length c.args.lists.now ≤ 2 ^ 32 = omega (arith, lists, c.requires.middle, c.requires.first, c.ranges.first.fits) in
    all-owners c.args.lists.now c.args.owners.now c.args.middle (2 ^ 32) c.requires.tables.owners_are low

pub push_own-requires-clause-within : goal.push_own-requires-clause-within
push_own-requires-clause-within c =
    let blocks = c.args.templates.now in
    let lists = c.args.lists.now in
    owners-below blocks lists (pairs_of (names_in blocks Service) lists) c.args.owners.now c.args.middle c.args.first c.args.count refl c.requires.tables.owners_are c.requires.middle c.requires.first c.requires.count
    c.requires.tables.host_lists c.args.edges.now.items c.push_owners.new.edges.items c.requires.none c.in_ok-push_owners.ensures

pub push_named-requires-clause-services : goal.push_named-requires-clause-services
push_named-requires-clause-services c =
    let owners = ap (λ (os : List ℕ). length os) c.requires.tables.owners_are in
    let long = owners-long c.names-descriptions.result.now c.args.lists.now in
    let one = c.in_ok-next.ensures.more in
    let two = c.in_ok-next-2.ensures.more in
    omega (arith, owners, long, one, two, c.requires.first, c.requires.count)

pub returns : goal.returns
returns c =
    let blocks = c.args.templates.now in
    let lists = c.args.lists.now in
    let services = pairs_of c.names-descriptions.result.now lists in
    IfOk-weaker c.push_named.result _ _
    (λ next over. all-lead blocks lists services c.args.owners.now c.args.middle c.args.first c.args.count
    (ap (λ (ns : List (List ℕ)). pairs_of ns lists) (c.names-descriptions.ensures.names ∙ ap (λ (o : ObjectsOf). names_in o.blocks o.kind) c.requires.tables.service_blocks))
    c.requires.tables.owners_are c.requires.middle c.requires.first c.requires.count c.requires.tables.host_lists c.args.edges.now.items c.push_owners.new.edges.items c.requires.none c.in_ok-push_owners.ensures
    c.push_own.new.edges.items c.push_subgroups.new.edges.items c.push_named.new.edges.items c.in_ok-next.next c.in_ok-next-2.next next c.in_ok-next.ensures c.in_ok-next-2.ensures over)
    c.push_named.ensures
