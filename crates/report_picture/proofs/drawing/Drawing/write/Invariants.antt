use Rattle.std.proofs.Common.{◌≡◌, ◌+◌, ◌-◌}
use Rattle.decider.specs.claims.Fits.{core_kept}
use Rattle.event_feed.specs.claims.Feed.{feed_limit}
use Rattle.report_telling.specs.Told.{form_of}
use Rattle.report_picture.proofs.DrawingLaws.{HasDrawn}
use Rattle.report_picture.proofs.drawing.Drawing.write.Given as goal

abbrev pub invariant-loop-self : goal.invariant-loop-self
invariant-loop-self g l = record {
  config : l.self.config.now ≡ l.fn.self.config.now;
  zone : l.self.clock ≡ l.fn.self.clock;
  picture : l.picture ≡ l.fn.picture;
  drawn : HasDrawn (form_of g.T.Teller.told g.T.Teller.after g.T.Teller.ended) l.fn.self.config.now l.fn.self.clock l.fn.self.feeder l.fn.self.teller (g.W.Write.contents l.fn.writer)
      (core_kept l.self.decider) l.self.feeder l.self.teller l.self.night (g.W.Write.contents l.writer) l.self.text.items;
}

abbrev pub decreases-loop-self : goal.decreases-loop-self
decreases-loop-self g l = feed_limit + 2 - l.self.feeder.line
