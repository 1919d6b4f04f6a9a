use Rattle.std.proofs.Common.{◌≡◌, ◌+◌, ◌-◌}
use Rattle.decider.specs.claims.Fits.{core_kept}
use Rattle.event_feed.specs.claims.Feed.{feed_limit}
use Rattle.notices_compared.proofs.StreamLaws.{HasCompared}
use Rattle.notices_compared.proofs.stream.write_changes.Given as goal

abbrev pub invariant-loop-text : goal.invariant-loop-text
invariant-loop-text g l = record {
  form : l.both.form ≡ l.fn.both.form;
  before : l.both.before.config.now ≡ l.fn.both.before.config.now;
  after : l.both.after.config.now ≡ l.fn.both.after.config.now;
  clock : l.both.clock ≡ l.fn.both.clock;
  zone_before : l.both.before.zone.now ≡ l.fn.both.clock;
  zone_after : l.both.after.zone.now ≡ l.fn.both.clock;
  compared : HasCompared l.fn.both.form.form l.fn.both.before.config.now l.fn.both.after.config.now l.fn.both.clock l.fn.feed.feeder l.fn.feed.last (g.W.Write.contents l.fn.writer)
      (core_kept l.both.before.decider) (core_kept l.both.after.decider) l.both.before.ended l.both.after.ended l.both.told_before l.both.told_after l.feed.feeder l.feed.last (g.W.Write.contents l.writer) l.text.items;
}

abbrev pub decreases-loop-text : goal.decreases-loop-text
decreases-loop-text g l = feed_limit + 2 - l.feed.feeder.line
