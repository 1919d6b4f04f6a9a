use Rattle.std.proofs.Common.{◌≡◌, ◌+◌, ◌<◌, ◌^◌, ◌∙◌, List, ap, arith, length, ℕ}
use Rattle.graph.specs.Reach.{Found}
use Rattle.object_groups.specs.claims.Objects.{objects_in}
use Rattle.object_groups.specs.Objects.{ObjectsOf}
use Rattle.object_reader.specs.declared.block.Block.{Block}
use Rattle.object_reader.specs.declared.block.BlockKind.TheVariants.{Service}
use Rattle.object_service_groups.proofs.GroupLemmas.{kept-are}
use Rattle.object_service_groups.proofs.groups.ServiceGroups.new.Goals as goal

pub graph_of-requires-clause-tables : goal.graph_of-requires-clause-tables
graph_of-requires-clause-tables c = record {
  service_blocks = c.objects-blocks.ensures ∙ ap (λ (bs : List Block). record { blocks = bs; kind = Service }) c.requires.services;
  host_lists = c.requires.lists;
  owners_are = c.as_slice.ensures.value ∙ c.in_ok-owners.ensures;
  host_names = c.requires.hosts;
  group_table = c.in_ok-groups.ensures;
}

pub graph_of-requires-clause-few : goal.graph_of-requires-clause-few
graph_of-requires-clause-few c =
    let long = ap (λ (ps : List ℕ). length ps) c.places.ensures.places ∙ ap (λ (o : ObjectsOf). length (objects_in o.blocks o.kind)) c.objects-blocks.ensures
    ∙ ap (λ (bs : List Block). length (objects_in bs Service)) c.requires.services in
    let groups = ap (λ (ps : List ℕ). length ps) c.places-2.ensures.places ∙ ap (λ (o : ObjectsOf). length (objects_in o.blocks o.kind)) c.in_ok-groups.ensures in
    omega (arith, long, groups, c.len.ensures, c.saturating_add-first.ensures, c.saturating_add.ensures, c.if-saturating_add.false)

pub invariant_of-result : goal.invariant_of-result
invariant_of-result c =
    let templates = c.args.templates.now in
    let long = ap (λ (ps : List ℕ). length ps) c.places.ensures.places ∙ ap (λ (o : ObjectsOf). length (objects_in o.blocks o.kind)) c.objects-blocks.ensures
    ∙ ap (λ (bs : List Block). length (objects_in bs Service)) c.requires.services in
    let groups = ap (λ (ps : List ℕ). length ps) c.places-2.ensures.places ∙ ap (λ (o : ObjectsOf). length (objects_in o.blocks o.kind)) c.in_ok-groups.ensures in
    let first : c.saturating_add-first.result ≡ length c.in_ok-owners.owners.items + length (objects_in templates Service) =
    omega (arith, long, groups, c.len.ensures, c.saturating_add-first.ensures, c.saturating_add.ensures, c.if-saturating_add.false) in
    let services : c.len-2.result ≡ length c.in_ok-owners.owners.items = omega (arith, c.len-2.ensures, c.in_ok-owners.owners.ok) in
    let nodes = c.node_count.ensures.count in
    let few : length c.in_ok-graph.graph < 2 ^ 32 = omega (arith, nodes, c.node_count.type_inv) in
    kept-are templates c.blocks-2.result.now c.in_ok-groups.groups c.args.lists.now c.in_ok-owners.owners.items c.len-2.result c.saturating_add-first.result c.in_ok-search.search.nodes c.in_ok-graph.graph
    c.blocks-2.ensures.value c.in_ok-groups.ensures c.requires.lists c.in_ok-owners.ensures services first c.in_ok-graph.ensures few
    (ap (λ (f : Found). f.nodes) c.in_ok-search.ensures ∙ c.node_count.ensures.count)
