use Rattle.std.proofs.Common.{◌≡◌, ◌+◌, ◌-◌, ◌<◌, ◌∙◌, Bool, List, Option, ap, arith, get_or, length, length-set, set, subst, sym, true, false, ℕ}
use Rattle.graph.specs.claims.Edges.{Leads}
use Rattle.object_inheritance.specs.Columns.{HasGivenFrom, IsGivenAt, IsNext}
use Rattle.object_inheritance.specs.Faults.{is_used}
use Rattle.object_inheritance.specs.declared.inherited.Given.{Given}
use Rattle.object_inheritance.proofs.ColumnLemmas.{none-yet, one-more, one-passed}
use Rattle.object_inheritance.proofs.InheritedLemmas.{graph-long}
use Rattle.object_inheritance.proofs.inherited.with_inherited.Goals as goal

pub loop-left-preserved-then-is_used : goal.loop-left-preserved-then-is_used
loop-left-preserved-then-is_used c =
    let order = c.order-order.result.now in
    let i = c.loop-left.left - 1 in
    let begun = c.loop-left.invariant.begun in
    let low : i < length order = omega (arith, begun, c.loop-left-test.true) in
    let next : c.loop-left.left ≡ i + 1 = omega (arith, c.loop-left-test.true) in
    record {
      begun = omega (arith, begun);
      long = length-set c.loop-left.column.items (get_or order i 0) c.given_at.result ∙ c.loop-left.invariant.long;
      each = λ blocks directive are inherited gives.
          subst (λ (ns : List ℕ). HasGivenFrom blocks directive c.args.uses.now i (set c.loop-left.column.items (get_or ns i 0) c.given_at.result)) (sym c.order-order.ensures)
          (one-more blocks directive c.args.uses.now are i c.loop-left.left c.loop-left.column.items c.as_slice.result.now c.given_at.result next
          (subst (λ (ns : List ℕ). i < length ns) c.order-order.ensures low)
          (c.loop-left.invariant.long ∙ ap (λ (graph : List (List ℕ)). length graph) are.same ∙ graph-long blocks)
          (subst (λ (ns : List ℕ). is_used c.args.uses.now (get_or ns i 0) ≡ true) c.order-order.ensures (sym c.is_used.ensures ∙ c.if-is_used.true))
          inherited (c.loop-left.invariant.each blocks directive are inherited gives) c.as_slice.ensures.value
          (subst (λ (ns : List ℕ). IsNext blocks directive c.as_slice.result.now (get_or ns i 0) → IsGivenAt blocks directive (get_or ns i 0) c.given_at.result)
          c.order-order.ensures (c.given_at.ensures blocks directive are.same)));
    }
