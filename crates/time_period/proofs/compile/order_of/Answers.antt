use Rattle.std.proofs.Common.{ℕ, ◌∙◌, sym, subst, ap, All}
use Rattle.std.specs.Prelude.{IfNone, IfSome}
use Rattle.graph.specs.Edges.{IsWithin}
use Rattle.graph_order.specs.Order.{HasLoop, IsOrder}
use Rattle.time_period.specs.Exclusions.{exclusion_edges}
use Rattle.time_period.proofs.ExclusionLemmas.{edges_within, no_loop, in_order}
use Rattle.time_period.proofs.compile.order_of.Goals as goal

pub new-requires : goal.new-requires
new-requires c =
    let are = c.as_slice-2.ensures.value ∙ c.in_ok-edges.ensures ∙ ap (exclusion_edges 0) c.as_slice.ensures in
    subst (λ (n : ℕ). All (IsWithin n) c.as_slice-2.result.now) (sym c.len.ensures) (edges_within c.args.config.now c.requires c.as_slice-2.result.now are)

pub unreachable-requires : goal.unreachable-requires
unreachable-requires c =
    let are = c.as_slice-2.ensures.value ∙ c.in_ok-edges.ensures ∙ ap (exclusion_edges 0) c.as_slice.ensures in
    let loop = subst (λ o. IfNone o (HasLoop c.in_ok-graph.graph)) c.in-None.is c.in_ok-order.ensures.a_loop in
    no_loop c.args.config.now c.requires c.as_slice-2.result.now are c.in_ok-graph.graph c.in_ok-graph.ensures.leads loop

pub returns : goal.returns
returns c =
    let are = c.as_slice-2.ensures.value ∙ c.in_ok-edges.ensures ∙ ap (exclusion_edges 0) c.as_slice.ensures in
    let is = subst (λ o. IfSome o (λ order. IsOrder c.in_ok-graph.graph order.items)) c.in-Some.is c.in_ok-order.ensures.order in
    in_order c.args.config.now c.requires c.as_slice-2.result.now are c.in_ok-graph.graph c.in_ok-graph.ensures.leads c.in-Some.order.items
    (c.in_ok-graph.ensures.ends.count ∙ c.len.ensures) is
