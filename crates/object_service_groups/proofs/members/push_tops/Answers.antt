use Rattle.std.proofs.Common.{◌+◌, ap, arith, get_or, map, refl, sym, List, ℕ}
use Rattle.lemmas.proofs.Edges.{edges-more}
use Rattle.object_groups.specs.ListEdges.{edge}
use Rattle.object_groups.specs.Shared.{wholes_of}
use Rattle.object_groups.specs.SharedLaws.{parts-at}
use Rattle.object_service_groups.specs.Pairs.{top_nodes}
use Rattle.object_service_groups.proofs.MemberLemmas.{lefts-within, top-is}
use Rattle.object_service_groups.proofs.members.push_tops.Goals as goal

pub push_list-requires-clause-before : goal.push_list-requires-clause-before
push_list-requires-clause-before c =
    let blocks = c.args.values.now.blocks in
    let directive = c.args.values.now.directive in
    let places = c.args.places.now in
    let lists = c.args.shared.now.lists.items in
    let one = c.index-parts.result.now in
    let i = c.loop-group.group in
    lefts-within (wholes_of blocks directive lists) c.args.lefts.now one.before c.requires.lefts
    (parts-at blocks directive places c.args.shared.now.parts.items lists i (get_or places i 0) one one c.requires.shared c.loop-group-test.true c.index-parts.ensures refl).before

pub loop-group-preserved : goal.loop-group-preserved
loop-group-preserved c =
    let hosts = c.args.hosts.now in
    let services = c.args.services.now in
    let blocks = c.args.values.now.blocks in
    let directive = c.args.values.now.directive in
    let places = c.args.places.now in
    let parts = c.args.shared.now.parts.items in
    let wholes = wholes_of blocks directive c.args.shared.now.lists.items in
    let one = c.index-parts.result.now in
    let i = c.loop-group.group in
    let long = c.requires.shared.long in
    edges-more (λ k. map (edge (c.args.first + k)) (top_nodes hosts services blocks directive wholes c.args.count places parts k)) c.args.edges.now.items i c.loop-group.edges.items _ _
    c.loop-group.invariant (c.in_ok-push_list.ensures wholes c.requires.lefts)
    (ap (λ (ends : List ℕ). map (edge (c.args.first + i)) ends)
    (sym (top-is hosts services blocks directive wholes c.args.count places parts i (get_or places i 0) one one (omega (arith, long, c.loop-group-test.true)) c.index-parts.ensures refl)))
