use Rattle.std.proofs.Common.{subst}
use Rattle.std.specs.List.Sorted.{IsStrictlyIncreasing}
use Rattle.std.proofs.lemmas.List.Filters.{dedup_is}
use Rattle.lemmas.proofs.Elements.{in_order-rising, in_order-same}
use Rattle.object_listing.proofs.numbers.put_in_order.Goals as goal

pub returns-then-rises-clause-rising : goal.returns-then-rises-clause-rising
returns-then-rises-clause-rising c = subst IsStrictlyIncreasing c.as_slice.ensures.value (c.rises.ensures.0 c.if-rises.true)

pub returns-then-rises-clause-same : goal.returns-then-rises-clause-same
returns-then-rises-clause-same c = λ k. ((λ at. at), (λ at. at))

pub returns-clause-rising : goal.returns-clause-rising
returns-clause-rising c = in_order-rising c.args.numbers.now.items c.sort.new.self.items c.dedup.new.self.items
    c.in_ok-sort.ensures.permutation c.in_ok-sort.ensures.sorted (dedup_is _ c.sort.new.self.items c.dedup.new.self.items c.dedup.ensures.filtered)

pub returns-clause-same : goal.returns-clause-same
returns-clause-same c = in_order-same c.args.numbers.now.items c.sort.new.self.items c.dedup.new.self.items
    c.in_ok-sort.ensures.permutation c.in_ok-sort.ensures.sorted (dedup_is _ c.sort.new.self.items c.dedup.new.self.items c.dedup.ensures.filtered)
