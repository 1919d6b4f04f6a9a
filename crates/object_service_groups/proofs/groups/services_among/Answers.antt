use Rattle.std.proofs.Common.{◌∙◌, ap, filter, nat_lt, subst, take_all}
use Rattle.std.specs.List.Sorted.{IsPermutation}
use Rattle.std.proofs.lemmas.List.Filters.{dedup_is}
use Rattle.object_groups.specs.NodeLaws.{below-from_sorted}
use Rattle.object_service_groups.proofs.groups.services_among.Goals as goal

pub returns : goal.returns
returns c = below-from_sorted c.args.services c.args.nodes.now c.sort.new.self.items c.dedup.new.self.items
    (subst (λ found. IsPermutation found c.sort.new.self.items) (c.loop-node.invariant ∙ ap (filter (λ node. nat_lt node c.args.services)) (take_all c.loop-node.node-index c.args.nodes.now c.loop-node-test.false)) c.in_ok-sort.ensures.permutation)
    c.in_ok-sort.ensures.sorted
    (dedup_is _ c.sort.new.self.items c.dedup.new.self.items c.dedup.ensures.filtered)
