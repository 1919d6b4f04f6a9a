use Rattle.std.proofs.Common.{None, ◌+◌, ◌^◌, ap, arith, get_or, map, sym, List, ℕ}
use Rattle.lemmas.proofs.Edges.{edges-more}
use Rattle.lemmas.proofs.Results.{on_err_always}
use Rattle.object_groups.specs.declared.shared.SharedList.{SharedList}
use Rattle.object_groups.specs.ListEdges.{between, inner_nodes}
use Rattle.object_groups.proofs.ListLemmas.{begins-on, inner-is}
use Rattle.object_groups.specs.SharedLaws.{before-within, shared-at}
use Rattle.object_groups.proofs.lists.push_inner.Goals as goal

pub push_shared-requires-clause-before : goal.push_shared-requires-clause-before
push_shared-requires-clause-before c =
    let none : SharedList = record { place = 0; before = None } in
    let lists = c.args.lists.now in
    let i = c.loop-number.number in
    before-within (get_or lists i none).before c.args.nodes.count i (2 ^ 32)
    (shared-at c.args.values.now.blocks c.args.values.now.directive lists c.requires.shared i none c.loop-number-test.true).before
    (omega (arith, c.loop-number-test.true, c.requires.few))

pub loop-number-preserved : goal.loop-number-preserved
loop-number-preserved c =
    let none : SharedList = record { place = 0; before = None } in
    let names = c.args.names.now in
    let blocks = c.args.values.now.blocks in
    let directive = c.args.values.now.directive in
    let nodes = c.args.nodes in
    let lists = c.args.lists.now in
    let i = c.loop-number.number in
    edges-more (λ j. map (between nodes.direction (nodes.count + j)) (inner_nodes names blocks directive nodes lists j)) c.args.edges.now.items i c.loop-number.edges.items _ _
    c.loop-number.invariant c.in_ok-push_shared.ensures.edges
    (ap (λ (ends : List ℕ). map (between nodes.direction (nodes.count + i)) ends) (sym (inner-is names blocks directive nodes lists i none c.loop-number-test.true)))

pub returns-in_err-push_shared-clause-left : goal.returns-in_err-push_shared-clause-left
returns-in_err-push_shared-clause-left c =
    on_err_always c.from_residual.result (begins-on c.args.edges.now.items c.loop-number.edges.items c.push_shared.new.edges.items _ c.loop-number.invariant c.in_err-push_shared.ensures.left)
