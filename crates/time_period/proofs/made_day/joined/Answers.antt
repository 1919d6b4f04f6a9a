use Rattle.std.proofs.Common.{arith}
use Rattle.time_period.proofs.SweepLemmas.{sweep_begins_anew, sweep_ends, sweep_grows, sweep_skips}
use Rattle.time_period.proofs.made_day.joined.Goals as goal
use Rattle.time_period.proofs.made_day.joined.Goals.{then-range-end, else-range-end+then-range-high+in_ok-close, else-range-end+else-range-high}

pub loop-range-preserved : goal.loop-range-preserved
loop-range-preserved c = elim c.if-range-end.branch [
  | then-range-end w ↦ rw (w.start-is, w.end-is, w.day-is)
      (sweep_grows c.args.sorted.now c.loop-range.day.items c.loop-range.range-index c.loop-range.start c.loop-range.end c.min-high.result _ c.requires c.loop-range-test.true
      c.loop-range.invariant c.min-high.ensures w.max-end.result w.max-end.ensures (omega (arith, w.if-range-end.true)))
  | else-range-end+then-range-high+in_ok-close w ↦ rw (w.start-is, w.end-is, w.day-is, w.in_ok-close.ensures)
      (sweep_begins_anew c.args.sorted.now c.loop-range.day.items c.loop-range.range-index c.loop-range.start c.loop-range.end c.min-high.result _ c.requires c.loop-range-test.true
      c.loop-range.invariant c.min-high.ensures (omega (arith, w.if-range-end.false)) (omega (arith, w.if-range-high.true)))
  | else-range-end+else-range-high w ↦ rw (w.start-is, w.end-is, w.day-is)
      (sweep_skips c.args.sorted.now c.loop-range.day.items c.loop-range.range-index c.loop-range.start c.loop-range.end c.min-high.result _ c.requires c.loop-range-test.true
      c.loop-range.invariant c.min-high.ensures (omega (arith, w.if-range-high.false)))
]

pub returns : goal.returns
returns c = rw c.in_ok-close-2.ensures
    (sweep_ends c.args.sorted.now c.loop-range.day.items c.loop-range.range-index c.loop-range.start c.loop-range.end (omega (arith, c.loop-range-test.false)) c.loop-range.invariant)
