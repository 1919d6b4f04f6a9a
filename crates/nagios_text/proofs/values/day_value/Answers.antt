use Rattle.nagios_text.proofs.LoopLemmas.{ranges-end, ranges-more}
use Rattle.nagios_text.proofs.values.day_value.Goals as goal

pub returns-then-range-rest : goal.returns-then-range-rest
returns-then-range-rest c =
    ranges-end c.loop-value.value.items c.push_range.new.value.items _ c.loop-value.rest.now c.before-range.result.now c.loop-value.invariant c.before-range.ensures c.in_ok-push_range.ensures c.if-range-rest.true

pub loop-value-preserved : goal.loop-value-preserved
loop-value-preserved c =
    ranges-more c.loop-value.value.items c.push_range.new.value.items c.push.new.self.items _ c.loop-value.rest.now c.before-range.result.now c.loop-value.invariant c.before-range.ensures c.in_ok-push_range.ensures c.in_ok-push.ensures.items c.if-range-rest.false
