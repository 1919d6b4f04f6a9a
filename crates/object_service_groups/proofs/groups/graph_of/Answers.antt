use Rattle.std.proofs.Common.{◌≡◌, ◌+◌, ◌∙◌, List, ap, arith, eqb-true, length, refl, sym, ℕ}
use Rattle.std.proofs.lemmas.Result.{IfOk-weaker}
use Rattle.object_groups.specs.claims.Objects.{names_in, objects_in}
use Rattle.object_groups.specs.Objects.{ObjectsOf}
use Rattle.object_reader.specs.declared.block.BlockKind.TheVariants.{Service, ServiceGroup}
use Rattle.object_services.specs.claims.Numbers.{pairs_of}
use Rattle.object_service_groups.specs.claims.Groups.{grouping}
use Rattle.object_service_groups.proofs.GroupLemmas.{count-same, graph-is, kept-is, named-long, nodes-are}
use Rattle.object_service_groups.proofs.groups.graph_of.Goals as goal

pub returns : goal.returns
returns c =
    let blocks = c.args.templates.now in
    let lists = c.args.lists.now in
    let owners = c.args.owners.now in
    let long = ap (λ (ps : List ℕ). length ps) c.places.ensures.places ∙ ap (λ (o : ObjectsOf). length (objects_in o.blocks o.kind)) c.requires.tables.service_blocks in
    let groups = ap (λ (ps : List ℕ). length ps) c.places-2.ensures.places ∙ ap (λ (o : ObjectsOf). length (objects_in o.blocks o.kind)) c.requires.tables.group_table in
    let first : length owners + length c.places.result.now ≡ length owners + length (objects_in blocks Service) = omega (arith, long) in
    let count : length owners + length c.places.result.now + length c.places-2.result.now ≡ length owners + length c.places.result.now + length (objects_in blocks ServiceGroup) = omega (arith, groups) in
    kept-is (grouping blocks lists) c.in_ok-graph.graph
    (graph-is (grouping blocks lists) c.push_all.new.edges.items c.as_slice.result.now (length owners + length c.places.result.now + length c.places-2.result.now) c.in_ok-next.next c.in_ok-graph.graph
    (count-same blocks lists (pairs_of (names_in blocks Service) lists) owners (length owners) (length owners + length c.places.result.now) (length owners + length c.places.result.now + length c.places-2.result.now)
    refl c.requires.tables.owners_are refl first count)
    c.in_ok-next.ensures c.as_slice.ensures.value c.in_ok-graph.ensures.ends c.in_ok-graph.ensures.leads)

pub returns-then-is_empty : goal.returns-then-is_empty
returns-then-is_empty c =
    let blocks = c.args.templates.now in
    let lists = c.args.lists.now in
    let owners = c.args.owners.now in
    let services = pairs_of (names_in blocks Service) lists in
    let long = ap (λ (ps : List ℕ). length ps) c.places.ensures.places ∙ ap (λ (o : ObjectsOf). length (objects_in o.blocks o.kind)) c.requires.tables.service_blocks in
    let groups = ap (λ (ps : List ℕ). length ps) c.places-2.ensures.places ∙ ap (λ (o : ObjectsOf). length (objects_in o.blocks o.kind)) c.requires.tables.group_table in
    let first : length owners + length c.places.result.now ≡ length owners + length (objects_in blocks Service) = omega (arith, long) in
    let count : length owners + length c.places.result.now + length c.places-2.result.now ≡ length owners + length c.places.result.now + length (objects_in blocks ServiceGroup) = omega (arith, groups) in
    let none = eqb-true (length c.places-3.result.now) 0 (sym c.is_empty.ensures ∙ c.if-is_empty.true) in
    let given = ap (λ (ps : List ℕ). length ps) c.places-3.ensures.places ∙ ap (λ (o : ObjectsOf). length (objects_in o.blocks o.kind)) c.requires.tables.group_table in
    let named = named-long blocks services in
    IfOk-weaker c.new.result _ _
    (λ graph has. nodes-are (grouping blocks lists) (length owners + length c.places.result.now + length c.places-2.result.now) graph
    (count-same blocks lists services owners (length owners) (length owners + length c.places.result.now) (length owners + length c.places.result.now + length c.places-2.result.now)
    refl c.requires.tables.owners_are refl first count)
    (omega (arith, none, given, named)) has.count)
    c.new.ensures.ends
