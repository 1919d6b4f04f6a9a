use Rattle.std.proofs.Common.{◌≡◌, ◌+◌, arith, subst, ℕ}
use Rattle.object_groups.specs.claims.Groups.{group_kind, grouping, object_kind}
use Rattle.object_groups.specs.ListEdges.{LeadOver}
use Rattle.object_groups.specs.Nodes.{edges_in, node_count}
use Rattle.object_groups.proofs.GroupLemmas.{graph-is, table-long}
use Rattle.object_groups.proofs.groups.graph_of.Goals as goal

pub returns : goal.returns
returns c =
    let blocks = c.args.templates.now in
    let kind = c.args.kind in
    let g = grouping blocks kind in
    let objects = table-long blocks (object_kind kind) c.args.objects.now c.names.result.now c.len.result c.requires.object_table c.names.ensures.names c.len.ensures in
    let groups = table-long blocks (group_kind kind) c.args.groups.now c.names-2.result.now c.len-2.result c.requires.group_table c.names-2.ensures.names c.len-2.ensures in
    let count : c.len.result + c.len-2.result + 3 ≡ node_count g.objects g.groups = omega (arith, objects, groups) in
    graph-is g c.push_all.new.edges.items c.as_slice.result.now c.in_ok-next.next c.in_ok-graph.graph
    (subst (λ (n : ℕ). LeadOver n (edges_in g) c.in_ok-next.next c.push_all.new.edges.items) count c.in_ok-next.ensures)
    c.as_slice.ensures.value c.in_ok-graph.ensures.ends c.in_ok-graph.ensures.leads
