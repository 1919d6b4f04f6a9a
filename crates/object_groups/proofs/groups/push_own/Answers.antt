use Rattle.std.proofs.Common.{◌++◌, ◌∙◌, List, ap, subst}
use Rattle.std.specs.Prelude.{IfOk}
use Rattle.graph.specs.declared.edges.Edge.{Edge}
use Rattle.object_groups.specs.claims.Groups.{group_kind, object_kind}
use Rattle.object_groups.specs.ListEdges.{LeadOver}
use Rattle.object_groups.specs.claims.Objects.{names_in, objects_in}
use Rattle.object_groups.specs.Objects.{ObjectsOf}
use Rattle.object_groups.proofs.GroupLemmas.{own-are, table-long}
use Rattle.object_groups.proofs.groups.push_own.Goals as goal

pub returns : goal.returns
returns c =
    let blocks = c.args.templates.now in
    let kind = c.args.kind in
    let first = table-long blocks (object_kind kind) c.args.objects.now c.names.result.now c.len-first.result c.requires.tables.object_table c.names.ensures.names c.len-first.ensures in
    let groups = table-long blocks (group_kind kind) c.args.groups.now c.names-2.result.now c.len.result c.requires.tables.group_table c.names-2.ensures.names c.len.ensures in
    subst (λ (es : List Edge). IfOk c.push_lists.result (λ next. LeadOver c.args.count (c.args.edges.now.items ++ es) next c.push_lists.new.edges.items))
    (own-are blocks kind c.names-3.result.now c.in_ok-own.own c.places.result.now c.len-first.result c.len.result c.args.count first groups c.in_ok-own.ensures
    (c.places.ensures.places ∙ ap (λ (o : ObjectsOf). objects_in o.blocks o.kind) c.requires.tables.object_table) (c.names-3.ensures.names ∙ ap (λ (o : ObjectsOf). names_in o.blocks o.kind) c.requires.tables.group_table))
    c.push_lists.ensures.edges
