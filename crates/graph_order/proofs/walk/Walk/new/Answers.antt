use Rattle.std.proofs.Common.{arith, refl}
use Rattle.graph_order.proofs.OverLemmas.{Fits-new}
use Rattle.graph_order.proofs.walk.Walk.new.Goals as goal

pub returns : goal.returns
returns c =
    Fits-new c.args.graph.now _ c.node_count-nodes.result (omega (arith, c.node_count-nodes.type_inv)) c.node_count-nodes.ensures.count c.node_count-nodes.ensures.closed
    (c.in_ok-vec.ensures.items_if_clones_equal (λ y is. is)) (c.in_ok-vec-2.ensures.items_if_clones_equal (λ y is. is))
    c.new.ensures.items c.new-2.ensures.items c.new-3.ensures.items c.new-4.ensures.items refl refl
