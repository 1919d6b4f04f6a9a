use Rattle.std.proofs.Common.{arith}
use Rattle.graph_order.proofs.OverLemmas.{first-of, no_loop-none, no_loop-past}
use Rattle.graph_order.proofs.loops.first_on_loop_below.Goals.{in_default-2, in_default}
use Rattle.graph_order.proofs.loops.first_on_loop_below.Goals as goal

pub returns-in-Some-clause-first : goal.returns-in-Some-clause-first
returns-in-Some-clause-first c = first-of c.args.graph.now c.args.count _ _ c.in-Some.node c.in_ok-node.ensures c.in-Some.is c.if-node-count.true

pub returns-in-Some-clause-below : goal.returns-in-Some-clause-below
returns-in-Some-clause-below c = c.if-node-count.true

pub returns-clause-no_loop : goal.returns-clause-no_loop
returns-clause-no_loop c =
    elim c.match-branch-2.branch [
      | in_default-2 w ↦ rw w.result-is (no_loop-past c.args.graph.now c.args.count _ _ w.in-Some.node c.in_ok-node.ensures w.in-Some.is (omega (arith, w.if-node-count.false)))
      | in_default w ↦ rw w.result-is (rw w.in_default.is at (no_loop-none c.args.graph.now c.args.count _ _ c.in_ok-node.ensures))
    ]
