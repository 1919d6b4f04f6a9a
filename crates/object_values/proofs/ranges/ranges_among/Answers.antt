use Rattle.object_values.proofs.RangeLemmas.{ranges-end, ranges-more}
use Rattle.object_values.proofs.ranges.ranges_among.Goals as goal

pub returns-then-part-rest : goal.returns-then-part-rest
returns-then-part-rest c =
    ranges-end c.loop-ranges.ranges.items c.push_range.new.ranges.items _ c.loop-ranges.rest.now c.before-part.result.now c.loop-ranges.invariant c.before-part.ensures c.in_ok-push_range.ensures c.if-part-rest.true

pub loop-ranges-preserved : goal.loop-ranges-preserved
loop-ranges-preserved c =
    ranges-more c.loop-ranges.ranges.items c.push_range.new.ranges.items _ c.loop-ranges.rest.now c.before-part.result.now c.loop-ranges.invariant c.before-part.ensures c.in_ok-push_range.ensures c.if-part-rest.false
