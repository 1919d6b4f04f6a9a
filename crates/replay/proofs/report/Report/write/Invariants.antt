use Rattle.std.proofs.Common.{◌≡◌, ◌+◌, ◌-◌}
use Rattle.decider.specs.claims.Fits.{core_kept}
use Rattle.event_feed.specs.claims.Feed.{feed_limit}
use Rattle.replay.proofs.ReportLaws.{HasWritten}
use Rattle.replay.proofs.report.Report.write.Given as goal

abbrev pub invariant-loop-self : goal.invariant-loop-self
invariant-loop-self g l = record {
  config : l.self.config.now ≡ l.fn.self.config.now;
  zone : l.self.zone.now ≡ l.fn.self.zone.now;
  written : HasWritten l.fn.self.config.now l.fn.self.zone.now l.fn.self.feeder (g.W.Write.contents l.fn.writer)
      (core_kept l.self.decider) l.self.feeder (g.W.Write.contents l.writer) l.self.lines;
}

abbrev pub decreases-loop-self : goal.decreases-loop-self
decreases-loop-self g l = feed_limit + 2 - l.self.feeder.line
