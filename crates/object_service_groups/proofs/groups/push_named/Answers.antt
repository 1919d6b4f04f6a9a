use Rattle.std.proofs.Common.{◌++◌, ◌∙◌, [], List, ap, get_or, length, subst}
use Rattle.std.specs.Prelude.{IfOk}
use Rattle.graph.specs.declared.edges.Edge.{Edge}
use Rattle.object_groups.specs.declared.lists.Direction.TheVariants.{ToNames}
use Rattle.object_groups.specs.ListEdges.{LeadOver, list_edges}
use Rattle.object_groups.specs.claims.Objects.{objects_in}
use Rattle.object_groups.specs.Objects.{ObjectsOf}
use Rattle.object_reader.specs.declared.block.BlockKind.TheVariants.{ServiceGroup}
use Rattle.object_services.specs.claims.Numbers.{Pair}
use Rattle.object_service_groups.specs.claims.Groups.{named_in}
use Rattle.object_service_groups.proofs.GroupLemmas.{named-are}
use Rattle.object_service_groups.proofs.groups.push_named.Goals as goal

pub returns : goal.returns
returns c =
    let blocks = c.args.templates.now in
    subst (λ (es : List Edge). IfOk c.push_members.result (λ next. LeadOver c.args.count (c.args.edges.now.items ++ es) next c.push_members.new.edges.items))
    (named-are blocks c.in_ok-services.services c.args.hosts.now c.in_ok-members.members c.places-2.result.now c.args.first c.requires.hosts c.in_ok-members.ensures
    (c.places-2.ensures.places ∙ ap (λ (o : ObjectsOf). objects_in o.blocks o.kind) c.requires.groups)
    ∙ ap (λ (ps : List Pair). list_edges ToNames c.args.first (length (objects_in blocks ServiceGroup)) (λ group. get_or (named_in blocks ps) group [])) c.in_ok-services.ensures)
    c.push_members.ensures
