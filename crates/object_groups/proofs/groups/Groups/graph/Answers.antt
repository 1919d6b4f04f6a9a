use Rattle.std.proofs.Common.{◌≡◌, length, subst}
use Rattle.object_groups.specs.claims.Groups.{grouping, object_kind, own_groups_directive}
use Rattle.object_groups.specs.Groups.{GroupsOf}
use Rattle.object_groups.specs.Nodes.{IsGraphOf, LeadsToMembers}
use Rattle.object_groups.specs.ObjectLaws.{lists-long}
use Rattle.object_groups.proofs.NodeLemmas.{leads-to_members}
use Rattle.object_groups.proofs.groups.Groups.graph.Goals as goal

pub returns : goal.returns
returns c =
    let blocks = c.args.self.now.blocks in
    let kind = c.args.self.now.kind in
    leads-to_members (grouping blocks kind) (lists-long blocks (object_kind kind) (own_groups_directive kind)) c.self.inside.search.graph
    (subst (λ (o : GroupsOf). IsGraphOf (grouping o.blocks o.kind) c.self.inside.search.graph) c.self.view_is c.self.invariant.searched.has_graph)
