use Rattle.std.proofs.Common.{◌++◌, ◌∙◌, List, ap, subst}
use Rattle.std.specs.Prelude.{IfOk, codes}
use Rattle.graph.specs.declared.edges.Edge.{Edge}
use Rattle.object_groups.specs.declared.lists.Direction.TheVariants.{ToNames}
use Rattle.object_groups.specs.ListEdges.{LeadOver}
use Rattle.object_groups.specs.claims.Objects.{names_in, objects_in}
use Rattle.object_groups.specs.Objects.{ObjectsOf}
use Rattle.object_reader.specs.declared.block.BlockKind.TheVariants.{ServiceGroup}
use Rattle.object_service_groups.proofs.GroupLemmas.{listed-are}
use Rattle.object_service_groups.proofs.groups.push_subgroups.Goals as goal

pub returns : goal.returns
returns c =
    subst (λ (es : List Edge). IfOk c.push_lists.result (λ next. LeadOver c.args.count (c.args.edges.now.items ++ es) next c.push_lists.new.edges.items))
    (listed-are c.args.templates.now ServiceGroup (codes "servicegroup_members") c.names.result.now c.in_ok-subgroups.subgroups c.places.result.now ToNames c.args.first c.args.first c.args.count
    c.in_ok-subgroups.ensures (c.places.ensures.places ∙ ap (λ (o : ObjectsOf). objects_in o.blocks o.kind) c.requires.groups)
    (c.names.ensures.names ∙ ap (λ (o : ObjectsOf). names_in o.blocks o.kind) c.requires.groups))
    c.push_lists.ensures.edges
