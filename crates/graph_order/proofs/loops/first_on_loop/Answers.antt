use Rattle.std.proofs.lemmas.Result.{IfOk-weaker}
use Rattle.graph_order.proofs.OverLemmas.{IfNone-weaker, no_loop-whole}
use Rattle.graph_order.proofs.loops.first_on_loop.Goals as goal

pub returns-clause-no_loop : goal.returns-clause-no_loop
returns-clause-no_loop c =
    IfOk-weaker c.first_on_loop_below.result _ _
    (λ found. IfNone-weaker found _ _ (no_loop-whole c.args.graph.now c.node_count.result c.node_count.ensures.count))
    c.first_on_loop_below.ensures.no_loop
