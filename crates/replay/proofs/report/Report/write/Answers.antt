use Rattle.std.proofs.Common.{◌<◌, ◌≤◌, ◌+◌, arith, refl, ◌∙◌}
use Rattle.decider.specs.claims.Fits.{core_kept}
use Rattle.event_feed.specs.claims.Feed.{feed_limit}
use Rattle.replay.proofs.ReportLaws.{written_cut, written_front, written_held, written_less, written_more, written_start, written_whole}
use Rattle.replay.specs.Report.{WritesReportFront}
use Rattle.replay.proofs.report.Report.write.Given.{Over}
use Rattle.replay.proofs.report.Report.write.Goals.{After-flush}
use Rattle.replay.proofs.report.Report.write.Goals as goal

pub loop-self-init : goal.loop-self-init
loop-self-init g c = record {
  config = refl;
  zone = refl;
  written = written_start c.args.self.now.config.now c.args.self.now.zone.now c.args.self.now.feeder (g.W.Write.contents c.args.writer.now)
      (core_kept c.args.self.now.decider) c.args.self.now.lines c.requires.goes_on c.requires.fits c.requires.held;
}

pub take_line-requires-clause-goes_on : goal.take_line-requires-clause-goes_on
take_line-requires-clause-goes_on g c = c.loop-self.invariant.written.follows.goes_on

pub take_line-requires-clause-fits : goal.take_line-requires-clause-fits
take_line-requires-clause-fits g c = (c.loop-self.invariant.written.past, c.loop-self.invariant.written.fits)

pub loop-self-preserved : goal.loop-self-preserved
loop-self-preserved g c =
    let inv = c.loop-self.invariant in
    let held = written_held _ _ _ _ _ _ _ _ _ _ inv.written c.in_ok-write_before_wait.ensures.ok in
    let on = rw (c.in-None.is, inv.config, inv.zone) at c.in_ok-take_line.ensures.goes_on in
    record {
      config = c.take_line.ensures.config ∙ inv.config;
      zone = c.take_line.ensures.zone ∙ inv.zone;
      written = written_more _ _ _ _ _ _ _ _ _ _ _ _ held on;
    }

pub loop-self-smaller : goal.loop-self-smaller
loop-self-smaller g c =
    let now = c.loop-self.invariant.written in
    let on = rw c.in-None.is at c.in_ok-take_line.ensures.goes_on in
    let next = on.each now.past now.fits in
    let less : c.loop-self.self.feeder.line < c.take_line.new.self.feeder.line = next.1.line in
    let limit : c.take_line.new.self.feeder.line ≤ feed_limit + 1 = c.take_line.ensures.limit in
    omega (arith, less, limit)

pub returns-in_err-write_before_wait-clause-front : goal.returns-in_err-write_before_wait-clause-front
returns-in_err-write_before_wait-clause-front g c = written_less g.R.Input.can_fail _ _ _ _ _ _ _ _ _ c.loop-self.invariant.written c.in_err-write_before_wait.ensures.front

pub returns-in_err-take_line-clause-front : goal.returns-in_err-take_line-clause-front
returns-in_err-take_line-clause-front g c =
    let inv = c.loop-self.invariant in
    let held = written_held _ _ _ _ _ _ _ _ _ _ inv.written c.in_ok-write_before_wait.ensures.ok in
    written_front g.R.Input.can_fail _ _ _ _ _ _ _ _ _ held (rw (inv.config, inv.zone) at c.in_err-take_line.ensures.front)

-- the feed ended, and a front of the report was written
cut_front : (g : Over) (c : After-flush g) → WritesReportFront g.R.Input.can_fail c.args.self.now.config.now c.args.self.now.zone.now c.args.self.now.feeder
    (g.W.Write.contents c.args.writer.now) (g.W.Write.contents c.flush.new.writer)
cut_front g c =
    let inv = c.loop-self.invariant in
    let held = written_held _ _ _ _ _ _ _ _ _ _ inv.written c.in_ok-write_before_wait.ensures.ok in
    let ends = rw (c.in-Some.is, inv.config, inv.zone) at c.in_ok-take_line.ensures.ends in
    written_cut g.R.Input.can_fail _ _ _ _ _ _ _ _ _ _ _ _ held ends c.flush.ensures.front

pub returns-in_err-flush-in-Some-clause-front : goal.returns-in_err-flush-in-Some-clause-front
returns-in_err-flush-in-Some-clause-front g c = cut_front g (goal.at.returns-in_err-flush-in-Some-clause-front g c).After-flush

pub returns-in-Some-clause-front : goal.returns-in-Some-clause-front
returns-in-Some-clause-front g c = cut_front g (goal.at.returns-in-Some-clause-front g c).After-flush

pub returns-in-Some-clause-ok : goal.returns-in-Some-clause-ok
returns-in-Some-clause-ok g c =
    let inv = c.loop-self.invariant in
    let held = written_held _ _ _ _ _ _ _ _ _ _ inv.written c.in_ok-write_before_wait.ensures.ok in
    let ends = rw (c.in-Some.is, inv.config, inv.zone) at c.in_ok-take_line.ensures.ends in
    written_whole g.R.Input.can_fail _ _ _ _ _ _ _ _ _ _ _ _ held ends c.in_ok-flush-in-Some.ensures.ok
