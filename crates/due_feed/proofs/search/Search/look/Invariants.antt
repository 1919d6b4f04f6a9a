use Rattle.std.proofs.Common.{◌≡◌, ◌+◌, ◌-◌}
use Rattle.decider.specs.claims.Fits.{core_kept}
use Rattle.event_feed.specs.claims.Feed.{feed_limit}
use Rattle.due_feed.proofs.SearchLaws.{HasSeen}
use Rattle.due_feed.proofs.search.Search.look.Given as goal

abbrev pub invariant-loop-count : goal.invariant-loop-count
invariant-loop-count g l = record {
  config : l.self.config.now ≡ l.fn.self.config.now;
  zone : l.self.zone.now ≡ l.fn.self.zone.now;
  seen : HasSeen l.fn.self.config.now l.fn.self.zone.now l.fn.self.feeder (core_kept l.self.decider) l.self.feeder l.self.count
      g.L.Looker.saw l.fn.looker l.looker;
}

abbrev pub decreases-loop-count : goal.decreases-loop-count
decreases-loop-count g l = feed_limit + 2 - l.self.feeder.line
