use Rattle.std.proofs.Common.{nat_le, arith, rules}
use Rattle.std.proofs.lemmas.List.Sorted.{IsPartitionPoint-from_clause}
use Rattle.time_period.proofs.StretchLemmas.{ends_rise, stretch_found, stretch_past, never_holds}
use Rattle.time_period.proofs.day.stretch_in.Goals as goal

pub returns-in-Some : goal.returns-in-Some
returns-in-Some c =
    let point = IsPartitionPoint-from_clause (λ r. nat_le r.end c.args.second) _ _ c.partition_point-place.ensures.partitioned (ends_rise c.args.ranges.now c.args.second c.requires.day) (λ a r q k. search rules) in
    let look = c.in-Some.ensures.lookup in
    stretch_found c.args.ranges.now c.args.second c.partition_point-place.result c.in-Some.range.now _ _ c.requires.day look.3.0 look.1 point c.of_range.ensures.stretch c.of_range.ensures.ends

pub returns-in-None : goal.returns-in-None
returns-in-None c =
    let point = IsPartitionPoint-from_clause (λ r. nat_le r.end c.args.second) _ _ c.partition_point-place.ensures.partitioned (ends_rise c.args.ranges.now c.args.second c.requires.day) (λ a r q k. search rules) in
    let look = c.in-None.ensures.lookup in
    never_holds _ _ _ c.never.ensures.holds (stretch_past c.args.ranges.now c.args.second c.partition_point-place.result c.never.result.end look.3 point.0 (omega (arith, c.never.ensures.end, c.requires.second)))
