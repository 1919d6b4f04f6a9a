use Rattle.std.proofs.Common.{arith, ◌≡◌, ◌∙◌, List, ℕ, sym, ap, subst}
use Rattle.std.specs.Prelude.{reverse}
use Rattle.std.proofs.lemmas.List.{take_at}
use Rattle.graph_order.specs.Order.{IsOrder}
use Rattle.graph_order.proofs.OverLemmas.{at_none, no_loop-none, no_loop-whole, some-HasLoop}
use Rattle.graph_order.proofs.order.order.Goals as goal

pub returns-then-is_some-clause-a_loop : goal.returns-then-is_some-clause-a_loop
returns-then-is_some-clause-a_loop c = some-HasLoop c.args.graph.now c.in_ok-walked.walked.least (sym c.is_some.ensures ∙ c.if-is_some.true) c.in_ok-walked.ensures.on_loop

pub returns-clause-order : goal.returns-clause-order
returns-clause-order c =
    let walked = c.in_ok-walked.walked in
    let written : c.reverse.new.self ≡ reverse walked.done.items =
    c.reverse.ensures.after ∙ ap (λ (xs : List ℕ). reverse xs) (c.as_mut_slice.ensures.value) in
    subst (λ (xs : List ℕ). IsOrder c.args.graph.now xs) (sym (take_at c.reverse.new.self _ c.in_ok-walked.walked.done.len (c.reverse.ensures.len ∙ c.as_mut_slice.ensures.len) ∙ written))
    (at_none walked.least (IsOrder c.args.graph.now (reverse walked.done.items)) (sym c.is_some.ensures ∙ c.if-is_some.false) (c.in_ok-walked.ensures.order (omega (arith, c.node_count.ensures.count))))

pub returns-clause-no_loop : goal.returns-clause-no_loop
returns-clause-no_loop c =
    let walked = c.in_ok-walked.walked in
    no_loop-whole c.args.graph.now c.node_count.result c.node_count.ensures.count
    (at_none walked.least _ (sym c.is_some.ensures ∙ c.if-is_some.false) (no_loop-none c.args.graph.now c.node_count.result walked.done.items walked.least c.in_ok-walked.ensures))
