use Rattle.std.proofs.Common.{arith, subst}
use Rattle.graph_order.specs.declared.walk.Step.{Step}
use Rattle.graph_order.specs.Walk.{MatchStep}
use Rattle.graph_order.proofs.OverLemmas.{Fits-over}
use Rattle.graph_order.proofs.walk.Walk.along.Goals as goal

pub returns : goal.returns
returns c =
    let over = subst (λ (s : Step). MatchStep c.args.graph.now c.min-starts.result c.loop-walk.walk c.step.new.self s) c.in-Over.is c.in_ok-step.ensures in
    Fits-over c.args.graph.now c.step.new.self c.args.count over.0 over.1 (omega (arith, over.2, c.min-starts.ensures, c.node_count.ensures.count))

pub loop-walk-init : goal.loop-walk-init
loop-walk-init c = c.in_ok-walk.ensures

pub step-requires-clause-fits : goal.step-requires-clause-fits
step-requires-clause-fits c = c.loop-walk.invariant
