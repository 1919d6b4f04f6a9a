use Rattle.std.proofs.Common.{◌≡◌, ◌+◌, ◌≤◌, ◌∙◌, List, ap, arith, length, refl, subst, ℕ}
use Rattle.object_groups.specs.claims.Groups.{group_kind, grouping, object_kind}
use Rattle.object_groups.specs.Groups.{GroupsOf}
use Rattle.object_groups.specs.Nodes.{LeadsToMembers}
use Rattle.object_groups.specs.claims.Objects.{names_in}
use Rattle.object_groups.specs.Objects.{ObjectsOf}
use Rattle.object_groups.specs.declared.groups.GroupKind.TheVariants.{HostGroups}
use Rattle.object_reader.specs.declared.block.BlockKind.TheVariants.{HostGroup}
use Rattle.object_services.specs.claims.Numbers.{Pair}
use Rattle.object_dependency_loops.specs.Base.{base_edges, host_count, service_count}
use Rattle.object_dependency_loops.proofs.BaseLemmas.{base-is}
use Rattle.object_dependency_loops.proofs.base.base_with.Goals as goal

pub returns-clause-base : goal.returns-clause-base
returns-clause-base c =
    let b = c.args.blocks.now in
    let hg = c.graph-host_graph.result.now in
    let sg = c.args.service_graph.now in
    let hosts : c.len-host_count.result ≡ host_count b =
    c.len-host_count.ensures ∙ ap (λ (names : List (List ℕ)). length names) c.names.ensures.names ∙ ap (λ (o : ObjectsOf). length (names_in o.blocks o.kind)) c.objects.ensures
    ∙ ap (λ (g : GroupsOf). length (names_in g.blocks (object_kind g.kind))) c.requires.hosts in
    let groups : c.len-group_count.result ≡ length (names_in b.blocks HostGroup) =
    c.len-group_count.ensures ∙ ap (λ (names : List (List ℕ)). length names) c.names-2.ensures.names ∙ ap (λ (o : ObjectsOf). length (names_in o.blocks o.kind)) c.groups.ensures
    ∙ ap (λ (g : GroupsOf). length (names_in g.blocks (group_kind g.kind))) c.requires.hosts in
    let services : c.len-services.result ≡ service_count b = c.len-services.ensures ∙ ap (λ (ps : List Pair). length ps) c.services.ensures.services in
    let host_leads : LeadsToMembers (grouping b.blocks HostGroups) hg = subst (λ (g : GroupsOf). LeadsToMembers (grouping g.blocks g.kind) hg) c.requires.hosts c.graph-host_graph.ensures in
    let within : c.args.first_group ≤ length sg = c.requires.services.first_within in
    let end : c.saturating_add-count.result ≡ host_count b + service_count b + length hg + length sg =
    omega (arith, c.saturating_add-first.ensures, c.saturating_add-second.ensures, c.saturating_add-count.ensures, c.if-count.false, c.node_count.ensures.count, c.node_count-2.ensures.count, hosts, services) in
    let second : c.saturating_add-second.result ≡ host_count b + service_count b + length hg =
    omega (arith, c.saturating_add-first.ensures, c.saturating_add-second.ensures, c.saturating_add-count.ensures, c.if-count.false, c.node_count.ensures.count, c.node_count-2.ensures.count, hosts, services) in
    let first : c.saturating_add-first.result ≡ host_count b + service_count b =
    omega (arith, c.saturating_add-first.ensures, c.saturating_add-second.ensures, c.saturating_add-count.ensures, c.if-count.false, c.node_count.ensures.count, c.node_count-2.ensures.count, hosts, services) in
    base-is b c.args.has_groups c.args.grouped c.args.first_group hg sg c.node_count.ensures.closed c.node_count-2.ensures.closed host_leads c.requires.services _ _ _ first first
    (omega (arith, first, hosts, groups)) (omega (arith, first, hosts)) (omega (arith, first, hosts, groups)) refl (omega (arith, second, within)) end
    (c.in_ok-edges.ensures ∙ ap (λ (n : ℕ). base_edges n c.len-services.result c.args.grouped hg sg) hosts ∙ ap (λ (n : ℕ). base_edges (host_count b) n c.args.grouped hg sg) services)

pub edges_of-requires-clause-few : goal.edges_of-requires-clause-few
edges_of-requires-clause-few c =
    omega (arith, c.saturating_add-first.ensures, c.saturating_add-second.ensures, c.saturating_add-count.ensures, c.if-count.false, c.node_count.ensures.count, c.node_count-2.ensures.count)

pub edges_of-requires-clause-hosts : goal.edges_of-requires-clause-hosts
edges_of-requires-clause-hosts c =
    let b = c.args.blocks.now in
    let hg = c.graph-host_graph.result.now in
    let hosts : c.len-host_count.result ≡ host_count b =
    c.len-host_count.ensures ∙ ap (λ (names : List (List ℕ)). length names) c.names.ensures.names ∙ ap (λ (o : ObjectsOf). length (names_in o.blocks o.kind)) c.objects.ensures
    ∙ ap (λ (g : GroupsOf). length (names_in g.blocks (object_kind g.kind))) c.requires.hosts in
    let host_leads : LeadsToMembers (grouping b.blocks HostGroups) hg = subst (λ (g : GroupsOf). LeadsToMembers (grouping g.blocks g.kind) hg) c.requires.hosts c.graph-host_graph.ensures in
    let all : host_count b + length (names_in b.blocks HostGroup) + 3 ≤ length hg = host_leads.count in
    omega (arith, hosts, all)

pub edges_of-requires-clause-services : goal.edges_of-requires-clause-services
edges_of-requires-clause-services c = c.requires.services.services_within
