use Rattle.std.proofs.Common.{◌≡◌}
use Rattle.rtrb.specs.Ring.{known_free, sent}
use Rattle.rtrb.specs.declared.errors.PushError.TheVariants as push
use Rattle.caller_feeds.specs.declared.item.FeedItem.TheVariants.{End}
use Rattle.caller_feeds.proofs.RingLemmas.{last_after, room_after}
use Rattle.caller_feeds.proofs.handle.FeedHandle.end.Goals as goal

pub invariant_of-self : goal.invariant_of-self
invariant_of-self c =
    let old = c.args.self.now.ring in
    let new = c.push.new.self in record {
      room = room_after (λ e. e ≡ push.Full End) (sent old) (sent new) (known_free old) (known_free new) End c.push.result c.push.ensures.ok c.push.ensures.full c.push.ensures.succeeds c.args.self.now.room;
      last = last_after (λ e. e ≡ push.Full End) (sent old) (sent new) (known_free old) (known_free new) End c.push.result c.push.ensures.ok c.push.ensures.full c.requires c.args.self.now.last;
    }
