use Rattle.std.proofs.Common.{◌≡◌, ◌+◌, ◌++◌, ◌∙◌, ap, arith, length, map, ℕ, List}
use Rattle.lemmas.proofs.Edges.{edges-more}
use Rattle.object_groups.specs.declared.lists.Direction.TheVariants.{ToNames}
use Rattle.object_groups.specs.ListEdges.{between, list_edges}
use Rattle.object_dependency_loops.specs.Base.{moved_ends}
use Rattle.object_dependency_loops.proofs.base.push_graph.Goals as goal

pub loop-node-preserved : goal.loop-node-preserved
loop-node-preserved c =
    edges-more (λ k. map (between ToNames (c.args.by + k)) (moved_ends c.args.by c.args.graph.now k)) c.args.edges.now.items c.loop-node.node c.loop-node.edges.items _ _
    c.loop-node.invariant c.in_ok-push_ends.ensures
    (ap (λ (ends : List ℕ). map (between ToNames (c.args.by + c.loop-node.node)) (map (λ end. c.args.by + end) ends)) c.ends.ensures.value)

pub returns : goal.returns
returns c =
    let end : c.loop-node.node ≡ length c.args.graph.now = omega (arith, c.loop-node-test.false, c.loop-node.auto.node-end, c.node_count-node-end.ensures.count) in
    c.loop-node.invariant ∙ ap (λ (n : ℕ). c.args.edges.now.items ++ list_edges ToNames c.args.by n (moved_ends c.args.by c.args.graph.now)) end
