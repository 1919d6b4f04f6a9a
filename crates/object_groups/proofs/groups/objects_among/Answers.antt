use Rattle.std.proofs.Common.{◌≡◌, ◌∙◌, ap, filter, nat_lt, subst, sym, take_all, List, ℕ}
use Rattle.std.specs.Prelude.{Contains}
use Rattle.std.specs.List.Sorted.{IsPermutation, IsStrictlyIncreasing}
use Rattle.std.proofs.lemmas.List.Filters.{dedup_is}
use Rattle.object_groups.specs.NodeLaws.{below-from, below-from_sorted}
use Rattle.object_groups.proofs.groups.objects_among.Goals as goal

pub returns-then-rises : goal.returns-then-rises
returns-then-rises c =
    let found = c.loop-node.found.items in
    let is : found ≡ filter (λ node. nat_lt node c.args.objects) c.args.nodes.now =
    c.loop-node.invariant ∙ ap (filter (λ node. nat_lt node c.args.objects)) (take_all c.loop-node.node-index c.args.nodes.now c.loop-node-test.false) in
    below-from c.args.objects c.args.nodes.now found (subst IsStrictlyIncreasing c.as_slice.ensures.value (c.rises.ensures.0 c.if-rises.true))
    (λ k. ((λ here. subst (λ (ns : List ℕ). Contains ns k) is here), (λ there. subst (λ (ns : List ℕ). Contains ns k) (sym is) there)))

pub returns : goal.returns
returns c = below-from_sorted c.args.objects c.args.nodes.now c.sort.new.self.items c.dedup.new.self.items
    (subst (λ found. IsPermutation found c.sort.new.self.items) (c.loop-node.invariant ∙ ap (filter (λ node. nat_lt node c.args.objects)) (take_all c.loop-node.node-index c.args.nodes.now c.loop-node-test.false)) c.in_ok-sort.ensures.permutation)
    c.in_ok-sort.ensures.sorted
    (dedup_is _ c.sort.new.self.items c.dedup.new.self.items c.dedup.ensures.filtered)
