use Rattle.std.proofs.Common.{rules, ◌≡◌, ◌++◌, ◌∷◌, [], ap, ◌∙◌}
use Rattle.rtrb.specs.Ring.{known_free, sent}
use Rattle.rtrb.specs.declared.errors.PushError.TheVariants as push
use Rattle.caller_feeds.specs.declared.item.FeedItem.TheVariants.{Posted}
use Rattle.caller_feeds.specs.Items.{has_end}
use Rattle.caller_feeds.proofs.ItemLemmas.{has_end-posted}
use Rattle.caller_feeds.proofs.RingLemmas.{last_after, room_after}
use Rattle.caller_feeds.proofs.handle.FeedHandle.post.Goals as goal

pub invariant_of-self : goal.invariant_of-self
invariant_of-self c =
    let old = c.args.self.now.ring in
    let new = c.push.new.self in record {
      room = room_after (λ e. e ≡ push.Full (Posted c.args.event)) (sent old) (sent new) (known_free old) (known_free new) (Posted c.args.event) c.push.result c.push.ensures.ok c.push.ensures.full c.push.ensures.succeeds c.args.self.now.room;
      last = last_after (λ e. e ≡ push.Full (Posted c.args.event)) (sent old) (sent new) (known_free old) (known_free new) (Posted c.args.event) c.push.result c.push.ensures.ok c.push.ensures.full c.requires c.args.self.now.last;
    }

pub returns-in-Ok-clause-still : goal.returns-in-Ok-clause-still
returns-in-Ok-clause-still c =
    let old = sent c.args.self.now.ring in
    let more : sent c.push.new.self ≡ old ++ Posted c.args.event ∷ [] = search rules in
    ap has_end more ∙ has_end-posted old c.args.event ∙ c.requires
