use Rattle.std.proofs.Common.{◌≡◌, length}
use Rattle.caller_feeds.specs.Feeds.{ArePairs, AreUnread, AreUnsent}
use Rattle.caller_feeds.proofs.making.feeds.Given as goal

abbrev pub invariant-loop-feed : goal.invariant-loop-feed
invariant-loop-feed l = record {
  count : length l.ends.items ≡ l._feed;
  pairs : ArePairs l.handles.items l.ends.items;
  unsent : AreUnsent l.handles.items;
  unread : AreUnread l.ends.items;
}
