use Rattle.std.proofs.Common.{◌+◌, ap, arith, get_or, map, refl, sym, List, ℕ}
use Rattle.lemmas.proofs.Edges.{edges-more}
use Rattle.lemmas.proofs.Results.{on_err_always}
use Rattle.object_groups.specs.ListEdges.{between, top_nodes}
use Rattle.object_groups.specs.Shared.{wholes_of}
use Rattle.object_groups.proofs.ListLemmas.{begins-on, kinds-long, top-is}
use Rattle.object_groups.specs.SharedLaws.{parts-at}
use Rattle.object_groups.proofs.lists.push_tops.Goals as goal

pub push_list-requires-clause-before : goal.push_list-requires-clause-before
push_list-requires-clause-before c =
    let i = c.loop-number.number in
    kinds-long c.args.values.now.blocks c.args.values.now.directive c.args.shared.now.lists.items c.args.kinds.now c.index-parts.result.now.before c.requires.kinds
    (parts-at c.args.values.now.blocks c.args.values.now.directive c.args.places.now c.args.shared.now.parts.items c.args.shared.now.lists.items i (get_or c.args.places.now i 0) c.index-parts.result.now c.index-parts.result.now
    c.requires.shared c.loop-number-test.true c.index-parts.ensures refl).before

pub loop-number-preserved : goal.loop-number-preserved
loop-number-preserved c =
    let names = c.args.names.now in
    let blocks = c.args.values.now.blocks in
    let directive = c.args.values.now.directive in
    let nodes = c.args.nodes in
    let places = c.args.places.now in
    let parts = c.args.shared.now.parts.items in
    let one = c.index-parts.result.now in
    let i = c.loop-number.number in
    let long = c.requires.shared.long in
    let has = parts-at blocks directive places parts c.args.shared.now.lists.items i (get_or places i 0) one one c.requires.shared c.loop-number-test.true c.index-parts.ensures refl in
    edges-more (λ k. map (between nodes.direction (nodes.node + k)) (top_nodes names blocks directive nodes places parts k)) c.args.edges.now.items i c.loop-number.edges.items _ _
    c.loop-number.invariant (c.in_ok-push_list.ensures.edges (wholes_of blocks directive c.args.shared.now.lists.items) c.requires.kinds has)
    (ap (λ (ends : List ℕ). map (between nodes.direction (nodes.node + i)) ends) (sym (top-is names blocks directive nodes places parts i (get_or places i 0) one one (omega (arith, long, c.loop-number-test.true)) c.index-parts.ensures refl)))

pub returns-in_err-push_list-clause-left : goal.returns-in_err-push_list-clause-left
returns-in_err-push_list-clause-left c =
    on_err_always c.from_residual.result (begins-on c.args.edges.now.items c.loop-number.edges.items c.push_list.new.edges.items _ c.loop-number.invariant c.in_err-push_list.ensures.left)
