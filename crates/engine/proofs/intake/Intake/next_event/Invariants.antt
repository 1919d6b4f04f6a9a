use Rattle.std.proofs.Common.{◌≡◌, ◌+◌, ◌-◌}
use Rattle.event_feed.specs.claims.Feed.{feed_limit}
use Rattle.engine.specs.Feed.{Goes}
use Rattle.engine.proofs.intake.Intake.next_event.Given as goal

abbrev pub invariant-loop-self : goal.invariant-loop-self
invariant-loop-self g l =
    Goes g.R.Input.can_fail l.config l.fn.self l.self
    × (l.self.read.events ≡ l.fn.self.read.events)

abbrev pub decreases-loop-self : goal.decreases-loop-self
decreases-loop-self g l = feed_limit + 1 - l.self.read.feed.line
