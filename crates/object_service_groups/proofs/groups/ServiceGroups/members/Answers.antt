use Rattle.std.proofs.Common.{◌+◌, ◌<◌, ◌≤◌, ◌∙◌, List, ap, arith, length, subst, sym, ℕ}
use Rattle.graph.specs.Reach.{IsReached}
use Rattle.object_groups.specs.claims.Objects.{names_in, objects_in}
use Rattle.object_groups.specs.Objects.{ObjectsOf}
use Rattle.object_listing.specs.claims.Listing.{AreThose}
use Rattle.object_reader.specs.declared.block.Block.{Block}
use Rattle.object_reader.specs.declared.block.BlockKind.TheVariants.{Service, ServiceGroup}
use Rattle.object_services.specs.claims.Limits.{AreHostLists}
use Rattle.object_services.specs.claims.Numbers.{pairs_of}
use Rattle.object_service_groups.specs.claims.Groups.{grouping}
use Rattle.object_service_groups.specs.Groups.{AreNodes}
use Rattle.object_service_groups.specs.claims.Members.{IsMember}
use Rattle.object_service_groups.specs.Nodes.{AreBelow}
use Rattle.object_service_groups.proofs.GroupLemmas.{grouping-well, named-long}
use Rattle.object_service_groups.proofs.NodeLemmas.{group_node, members-are, none-are}
use Rattle.object_service_groups.proofs.groups.ServiceGroups.members.Goals as goal

pub returns-then-group-len-clause-members : goal.returns-then-group-len-clause-members
returns-then-group-len-clause-members c = λ lists are.
    let blocks = c.args.self.now in
    let g = grouping blocks lists in
    let long = c.len.ensures ∙ c.names.ensures.long ∙ ap (λ (o : ObjectsOf). length (objects_in o.blocks o.kind)) c.self.invariant.group_table
    ∙ ap (λ (bs : List Block). length (objects_in bs ServiceGroup)) c.self.view_is in
    let named = named-long blocks (pairs_of (names_in blocks Service) lists) in
    let past : length g.named ≤ c.args.group = omega (arith, long, named, c.if-group-len.true) in
    subst (λ (items : List ℕ). AreThose (IsMember g c.args.group) items) (sym c.new.ensures.items) (none-are g (grouping-well blocks lists are) c.args.group past)

pub overflow_add-self-inside : goal.overflow_add-self-inside
overflow_add-self-inside c =
    let long = c.len.ensures ∙ c.names.ensures.long ∙ ap (λ (o : ObjectsOf). length (objects_in o.blocks o.kind)) c.self.invariant.group_table in
    omega (arith, long, c.if-group-len.false, c.self.invariant.count, c.self.invariant.few)

pub overflow_cast-self-inside : goal.overflow_cast-self-inside
overflow_cast-self-inside c =
    let long = c.len.ensures ∙ c.names.ensures.long ∙ ap (λ (o : ObjectsOf). length (objects_in o.blocks o.kind)) c.self.invariant.group_table in
    omega (arith, long, c.if-group-len.false, c.self.invariant.count, c.self.invariant.few)

pub reach-requires-clause-within : goal.reach-requires-clause-within
reach-requires-clause-within c =
    let long = c.len.ensures ∙ c.names.ensures.long ∙ ap (λ (o : ObjectsOf). length (objects_in o.blocks o.kind)) c.self.invariant.group_table in
    omega (arith, long, c.if-group-len.false, c.self.invariant.count)

pub returns-clause-members : goal.returns-clause-members
returns-clause-members c = λ lists are.
    let blocks = c.args.self.now in
    let g = grouping blocks lists in
    let graph = c.self.inside.graph in
    let long = c.len.ensures ∙ c.names.ensures.long ∙ ap (λ (o : ObjectsOf). length (objects_in o.blocks o.kind)) c.self.invariant.group_table
    ∙ ap (λ (bs : List Block). length (objects_in bs ServiceGroup)) c.self.view_is in
    let named = named-long blocks (pairs_of (names_in blocks Service) lists) in
    let low : c.args.group < length g.named = omega (arith, long, named, c.if-group-len.false) in
    let nodes : AreNodes g c.self.inside.services c.self.inside.first graph =
    subst (λ (bs : List Block). AreNodes (grouping bs lists) c.self.inside.services c.self.inside.first graph) c.self.view_is
    (c.self.invariant.has_nodes lists (subst (λ (bs : List Block). AreHostLists bs (objects_in bs Service) lists) (sym c.self.view_is) are)) in
    let reached : IsReached graph (group_node g c.args.group) c.found.result.now =
    subst (λ (found : List ℕ). IsReached graph (group_node g c.args.group) found) (sym c.found.ensures.value)
    (subst (λ (n : ℕ). IsReached graph (n + c.args.group) c.reach.new.self.found) nodes.first_is c.reach.ensures.found) in
    members-are g (grouping-well blocks lists are) graph c.args.group c.found.result.now c.in_ok-found.found.items (nodes.graph_is.graph_is (omega (arith, low))) low reached
    (subst (λ (n : ℕ). AreBelow n c.found.result.now c.in_ok-found.found.items) nodes.services_are c.in_ok-found.ensures)
