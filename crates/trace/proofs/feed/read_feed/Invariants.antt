use Rattle.std.proofs.Common.{◌≡◌, ◌+◌, ◌-◌, ◌≤◌, None}
use Rattle.event_feed.specs.claims.Feed.{feed_limit}
use Rattle.text_lines.specs.claims.Lines.{Known}
use Rattle.trace.specs.FeedRun.{ReadsSome, Unmoved}
use Rattle.trace.specs.Run.{Fits}
use Rattle.trace.proofs.feed.read_feed.Given as goal

abbrev pub invariant-loop-after : goal.invariant-loop-after
invariant-loop-after g l = record {
  fits : Fits l.run;
  unmoved : Unmoved l.fn.run l.run;
  limit : l.feeder.line ≤ feed_limit + 1;
  open_still : l.feeder.stop ≡ None;
  so_far : Known l.fn.feeder.bytes l.feeder.bytes (λ bytes rest.
      ReadsSome l.fn.run l.fn.feeder bytes l.run l.feeder rest
      (g.W.Write.contents l.fn.writer) (g.W.Write.contents l.writer) l.fn.lines l.lines);
}

abbrev pub decreases-loop-after : goal.decreases-loop-after
decreases-loop-after g l = feed_limit + 2 - l.feeder.line
