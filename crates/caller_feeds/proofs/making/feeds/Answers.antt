use Rattle.std.proofs.Common.{rules, ◌≡◌, ◌++◌, ◌∷◌, []}
use Rattle.std.proofs.lemmas.List.Elements.{All-push}
use Rattle.lemmas.proofs.Zips.{zip-more}
use Rattle.caller_feeds.specs.Feeds.{IsPair, IsUnread, IsUnsent}
use Rattle.caller_feeds.proofs.making.feeds.Goals as goal

pub loop-feed-preserved : goal.loop-feed-preserved
loop-feed-preserved c =
    let inv = c.loop-feed.invariant in
    let h = c.in_ok-handle.handle in
    let e = c.in_ok-handle.end in
    let handles : c.push.new.self.items ≡ c.loop-feed.handles.items ++ h ∷ [] = search rules in
    let ends : c.push-in-loop-feed.new.self.items ≡ c.loop-feed.ends.items ++ e ∷ [] = search rules in
    record {
      count = search rules;
      pairs = rw (handles, ends) (zip-more IsPair c.loop-feed.handles.items c.loop-feed.ends.items h e inv.pairs c.in_ok-handle.ensures.pair);
      unsent = rw handles (All-push IsUnsent c.loop-feed.handles.items h inv.unsent c.in_ok-handle.ensures.unsent);
      unread = rw ends (All-push IsUnread c.loop-feed.ends.items e inv.unread c.in_ok-handle.ensures.unread);
    }
