use Rattle.std.proofs.Common.{None, ◌+◌, ap, map, sym, List, ℕ}
use Rattle.lemmas.proofs.Edges.{edges-more}
use Rattle.object_groups.specs.declared.shared.SharedList.{SharedList}
use Rattle.object_groups.specs.ListEdges.{edge}
use Rattle.object_groups.specs.Shared.{wholes_of}
use Rattle.object_service_groups.specs.Pairs.{inner_nodes}
use Rattle.object_service_groups.proofs.MemberLemmas.{inner-is, lefts-inner}
use Rattle.object_service_groups.proofs.members.push_inner.Goals as goal

pub push_shared-requires-clause-before : goal.push_shared-requires-clause-before
push_shared-requires-clause-before c =
    let none : SharedList = record { place = 0; before = None } in
    lefts-inner c.args.values.now.blocks c.args.values.now.directive c.args.lists.now c.args.lefts.now c.loop-number.number none c.requires.shared c.requires.lefts c.loop-number-test.true

pub loop-number-preserved : goal.loop-number-preserved
loop-number-preserved c =
    let none : SharedList = record { place = 0; before = None } in
    let hosts = c.args.hosts.now in
    let services = c.args.services.now in
    let blocks = c.args.values.now.blocks in
    let directive = c.args.values.now.directive in
    let lists = c.args.lists.now in
    let wholes = wholes_of blocks directive lists in
    let i = c.loop-number.number in
    edges-more (λ j. map (edge (c.args.count + j)) (inner_nodes hosts services blocks directive wholes c.args.count lists j)) c.args.edges.now.items i c.loop-number.edges.items _ _
    c.loop-number.invariant (c.in_ok-push_shared.ensures wholes c.requires.lefts)
    (ap (λ (ends : List ℕ). map (edge (c.args.count + i)) ends) (sym (inner-is hosts services blocks directive wholes c.args.count lists i none c.loop-number-test.true)))
