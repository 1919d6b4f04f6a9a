use Rattle.std.proofs.lemmas.Result.{IfOk-weaker}
use Rattle.object_groups.specs.claims.Groups.{group_kind, grouping, object_kind}
use Rattle.object_groups.proofs.GroupLemmas.{all-lead, ends-are, ends-below, own-lead, table-names}
use Rattle.object_groups.proofs.groups.push_all.Goals as goal

pub push_own-requires-clause-within : goal.push_own-requires-clause-within
push_own-requires-clause-within c =
    let blocks = c.args.templates.now in
    let kind = c.args.kind in
    let g = grouping blocks kind in
    ends-below g c.args.count c.requires.count c.push_object_ends.new.edges.items
    (ends-are g c.names.result.now c.names-2.result.now c.names-3.result.now c.names-4.result.now c.args.edges.now.items c.push_group_ends.new.edges.items c.push_object_ends.new.edges.items c.requires.none
    (table-names blocks (object_kind kind) c.args.objects.now c.names.result.now c.requires.tables.object_table c.names.ensures.names)
    (table-names blocks (group_kind kind) c.args.groups.now c.names-2.result.now c.requires.tables.group_table c.names-2.ensures.names)
    (table-names blocks (object_kind kind) c.args.objects.now c.names-3.result.now c.requires.tables.object_table c.names-3.ensures.names)
    (table-names blocks (group_kind kind) c.args.groups.now c.names-4.result.now c.requires.tables.group_table c.names-4.ensures.names)
    c.in_ok-push_group_ends.ensures c.in_ok-push_object_ends.ensures)

pub returns : goal.returns
returns c =
    let blocks = c.args.templates.now in
    let kind = c.args.kind in
    let g = grouping blocks kind in
    let ends = ends-are g c.names.result.now c.names-2.result.now c.names-3.result.now c.names-4.result.now c.args.edges.now.items c.push_group_ends.new.edges.items c.push_object_ends.new.edges.items c.requires.none
    (table-names blocks (object_kind kind) c.args.objects.now c.names.result.now c.requires.tables.object_table c.names.ensures.names)
    (table-names blocks (group_kind kind) c.args.groups.now c.names-2.result.now c.requires.tables.group_table c.names-2.ensures.names)
    (table-names blocks (object_kind kind) c.args.objects.now c.names-3.result.now c.requires.tables.object_table c.names-3.ensures.names)
    (table-names blocks (group_kind kind) c.args.groups.now c.names-4.result.now c.requires.tables.group_table c.names-4.ensures.names)
    c.in_ok-push_group_ends.ensures c.in_ok-push_object_ends.ensures in
    IfOk-weaker c.push_subgroups.result _ _
    (λ next over. all-lead g c.args.count c.requires.count c.push_own.new.edges.items c.push_members.new.edges.items c.push_subgroups.new.edges.items c.in_ok-next.next c.in_ok-next-2.next next
    (own-lead g c.args.count c.requires.count c.push_object_ends.new.edges.items c.push_own.new.edges.items c.in_ok-next.next ends c.in_ok-next.ensures) c.in_ok-next-2.ensures over)
    c.push_subgroups.ensures
