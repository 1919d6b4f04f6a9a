use Rattle.std.proofs.Common.{nat_le, slice_index_or, arith, rules}
use Rattle.std.proofs.lemmas.Bool.{leb-false, leb-true}
use Rattle.std.proofs.lemmas.List.Sorted.{IsPartitionPoint-from_clause, IsPartitionedBy-leb}
use Rattle.journaled.specs.Places.{place}
use Rattle.journaled.proofs.past.count_up_to.Goals as goal

pub returns-clause-less : goal.returns-clause-less
returns-clause-less c =
    let point = IsPartitionPoint-from_clause (λ n. nat_le (place n) c.args.at) _ _ c.partition_point.ensures.partitioned (IsPartitionedBy-leb place c.args.settled.now c.args.at c.requires) (λ a r q k. search rules) in
    λ k d less. leb-true (place (slice_index_or c.args.settled.now k d)) c.args.at (point.0 k d (omega arith) less)

pub returns-clause-rest : goal.returns-clause-rest
returns-clause-rest c =
    let point = IsPartitionPoint-from_clause (λ n. nat_le (place n) c.args.at) _ _ c.partition_point.ensures.partitioned (IsPartitionedBy-leb place c.args.settled.now c.args.at c.requires) (λ a r q k. search rules) in
    λ k d from less. leb-false (place (slice_index_or c.args.settled.now k d)) c.args.at (point.1 k d from less)
