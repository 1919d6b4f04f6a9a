use Rattle.std.proofs.Common.{◌≡◌, ◌+◌, ◌<◌, ◌≤◌, ◌∙◌, List, ap, arith, length, subst, sym, ℕ}
use Rattle.std.proofs.lemmas.Result.{IfOk-weaker}
use Rattle.graph.specs.Reach.{IsReached}
use Rattle.object_groups.specs.claims.Groups.{group_kind, grouping, object_kind, own_groups_directive, subgroups_directive}
use Rattle.object_groups.specs.Groups.{GroupsOf}
use Rattle.object_groups.specs.Members.{AreMembers}
use Rattle.object_groups.specs.Nodes.{AreBelow, group_node, IsGraphOf}
use Rattle.object_groups.specs.claims.Objects.{names_in}
use Rattle.object_groups.specs.Objects.{ObjectsOf}
use Rattle.object_groups.proofs.GroupLemmas.{members-are, none-are}
use Rattle.object_groups.specs.ObjectLaws.{lists-long}
use Rattle.object_groups.proofs.groups.Groups.members.Goals as goal

pub returns-then-group-len-clause-members : goal.returns-then-group-len-clause-members
returns-then-group-len-clause-members c =
    let blocks = c.args.self.now.blocks in
    let kind = c.args.self.now.kind in
    let g = grouping blocks kind in
    let groups : c.len.result ≡ length g.groups = c.len.ensures ∙ ap (λ (names : List (List ℕ)). length names) c.names-2.ensures.names
    ∙ ap (λ (o : ObjectsOf). length (names_in o.blocks o.kind)) c.self.invariant.are.group_table ∙ ap (λ (o : GroupsOf). length (names_in o.blocks (group_kind o.kind))) c.self.view_is in
    let past : length g.groups ≤ c.args.group = omega (arith, groups, c.if-group-len.true) in
    subst (λ (items : List ℕ). AreMembers g c.args.group items) (sym c.new.ensures.items)
    (none-are g c.args.group (lists-long blocks (group_kind kind) _) (lists-long blocks (group_kind kind) (subgroups_directive kind)) past)

pub returns-clause-members : goal.returns-clause-members
returns-clause-members c =
    let blocks = c.args.self.now.blocks in
    let kind = c.args.self.now.kind in
    let g = grouping blocks kind in
    let graph = c.self.inside.search.graph in
    let objects : c.len-objects.result ≡ length g.objects = c.len-objects.ensures ∙ ap (λ (names : List (List ℕ)). length names) c.names.ensures.names
    ∙ ap (λ (o : ObjectsOf). length (names_in o.blocks o.kind)) c.self.invariant.are.object_table ∙ ap (λ (o : GroupsOf). length (names_in o.blocks (object_kind o.kind))) c.self.view_is in
    let groups : c.len.result ≡ length g.groups = c.len.ensures ∙ ap (λ (names : List (List ℕ)). length names) c.names-2.ensures.names
    ∙ ap (λ (o : ObjectsOf). length (names_in o.blocks o.kind)) c.self.invariant.are.group_table ∙ ap (λ (o : GroupsOf). length (names_in o.blocks (group_kind o.kind))) c.self.view_is in
    let low : c.args.group < length g.groups = omega (arith, groups, c.if-group-len.false) in
    let has : IsGraphOf g graph = subst (λ (o : GroupsOf). IsGraphOf (grouping o.blocks o.kind) graph) c.self.view_is c.self.invariant.searched.has_graph in
    let reached : IsReached graph (group_node g.objects c.args.group) c.found.result.now =
    subst (λ (found : List ℕ). IsReached graph (group_node g.objects c.args.group) found) (sym c.found.ensures.value)
    (subst (λ (n : ℕ). IsReached graph (n + c.args.group) c.reach.new.self.found) objects c.reach.ensures.found) in
    IfOk-weaker c.objects_among.result _ _
    (λ members below. members-are g graph c.args.group c.found.result.now members.items (lists-long blocks (object_kind kind) (own_groups_directive kind)) low has reached
    (subst (λ (n : ℕ). AreBelow n c.found.result.now members.items) objects below))
    c.objects_among.ensures
