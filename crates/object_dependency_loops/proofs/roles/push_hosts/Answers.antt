use Rattle.std.proofs.Common.{◌≡◌, ◌∙◌, List, Some, ap, arith, length, ℕ}
use Rattle.std.proofs.lemmas.Result.{IfOk-weaker}
use Rattle.object_groups.specs.claims.Groups.{group_kind, object_kind}
use Rattle.object_groups.specs.Groups.{GroupsOf}
use Rattle.object_groups.specs.claims.Objects.{names_in}
use Rattle.object_groups.specs.Objects.{ObjectsOf}
use Rattle.object_listing.specs.Listing.{ListingOf}
use Rattle.object_reached.specs.Listed.{ServiceListingOf}
use Rattle.object_reached.specs.claims.Roles.{directives_of}
use Rattle.object_reader.specs.declared.block.Block.{Block}
use Rattle.object_reader.specs.declared.block.BlockKind.TheVariants.{Host, HostGroup}
use Rattle.object_dependency_loops.proofs.RoleLemmas.{hosts-pushed, step-within}
use Rattle.object_dependency_loops.proofs.roles.push_hosts.Goals as goal

pub push_listed-requires-2-clause-within : goal.push_listed-requires-2-clause-within
push_listed-requires-2-clause-within c = (step-within c.args.blocks.now c.args.firsts.objects c.args.node c.in_ok-next.next c.args.node c.args.edges.now.items c.push_listed.new.edges.items c.args.links.now.items c.push_listed.new.links.items
    c.args.places.now c.names.result.now c.objects.result.now c.args.firsts.hosts (Some c.args.firsts.all_hosts) c.requires.linked c.requires.places c.in_ok-next.ensures (omega arith)).0

pub push_listed-requires-2-clause-names : goal.push_listed-requires-2-clause-names
push_listed-requires-2-clause-names c =
    let more = (step-within c.args.blocks.now c.args.firsts.objects c.args.node c.in_ok-next.next c.args.node c.args.edges.now.items c.push_listed.new.edges.items c.args.links.now.items c.push_listed.new.links.items
    c.args.places.now c.names.result.now c.objects.result.now c.args.firsts.hosts (Some c.args.firsts.all_hosts) c.requires.linked c.requires.places c.in_ok-next.ensures (omega arith)).1 in
    let groups : length c.names-2.result.now ≡ length (names_in c.args.blocks.now.blocks HostGroup) =
    ap (λ (names : List (List ℕ)). length names) c.names-2.ensures.names ∙ ap (λ (o : ObjectsOf). length (names_in o.blocks o.kind)) c.groups-2.ensures
    ∙ ap (λ (g : GroupsOf). length (names_in g.blocks (group_kind g.kind))) c.requires.hosts in
    let few = c.requires.base.groups_few in
    omega (arith, more, groups, few)

pub push_listed-requires-2-clause-all : goal.push_listed-requires-2-clause-all
push_listed-requires-2-clause-all c =
    let more = (step-within c.args.blocks.now c.args.firsts.objects c.args.node c.in_ok-next.next c.args.node c.args.edges.now.items c.push_listed.new.edges.items c.args.links.now.items c.push_listed.new.links.items
    c.args.places.now c.names.result.now c.objects.result.now c.args.firsts.hosts (Some c.args.firsts.all_hosts) c.requires.linked c.requires.places c.in_ok-next.ensures (omega arith)).1 in
    let few = c.requires.base.all_groups_few in
    omega (arith, more, few)

pub returns : goal.returns
returns c =
    let role = c.args.reached.now.role in
    let hosts : c.names.result.now ≡ names_in c.args.blocks.now.blocks Host =
    c.names.ensures.names ∙ ap (λ (o : ObjectsOf). names_in o.blocks o.kind) c.objects-2.ensures ∙ ap (λ (g : GroupsOf). names_in g.blocks (object_kind g.kind)) c.requires.hosts in
    let groups : c.names-2.result.now ≡ names_in c.args.blocks.now.blocks HostGroup =
    c.names-2.ensures.names ∙ ap (λ (o : ObjectsOf). names_in o.blocks o.kind) c.groups-2.ensures ∙ ap (λ (g : GroupsOf). names_in g.blocks (group_kind g.kind)) c.requires.hosts in
    let by_hosts : c.objects.result.now ≡ record { blocks = c.args.blocks.now.blocks; directive = (directives_of role).hosts } =
    c.objects.ensures ∙ ap (λ (l : ListingOf). record { blocks = l.blocks; directive = l.directives.objects }) c.hosts-listing.ensures
    ∙ ap (λ (v : ServiceListingOf). record { blocks = v.blocks; directive = v.directives.hosts }) c.listing.ensures
    ∙ ap (λ (bs : List Block). record { blocks = bs; directive = (directives_of role).hosts }) c.requires.reached in
    let by_groups : c.groups.result.now ≡ record { blocks = c.args.blocks.now.blocks; directive = (directives_of role).host_groups } =
    c.groups.ensures ∙ ap (λ (l : ListingOf). record { blocks = l.blocks; directive = l.directives.groups }) c.hosts-listing.ensures
    ∙ ap (λ (v : ServiceListingOf). record { blocks = v.blocks; directive = v.directives.host_groups }) c.listing.ensures
    ∙ ap (λ (bs : List Block). record { blocks = bs; directive = (directives_of role).host_groups }) c.requires.reached in
    IfOk-weaker c.push_listed-2.result _ _
    (λ next listed. hosts-pushed c.listed_are_objects.ensures c.args.blocks.now c.args.firsts c.args.node c.in_ok-next.next next c.args.edges.now.items c.push_listed.new.edges.items c.push_listed-2.new.edges.items
    c.args.links.now.items c.push_listed.new.links.items c.push_listed-2.new.links.items c.args.places.now (directives_of role) c.names.result.now c.names-2.result.now c.objects.result.now c.groups.result.now
    c.requires.base c.requires.linked c.requires.places hosts groups by_hosts by_groups c.in_ok-next.ensures listed)
    c.push_listed-2.ensures
