use Rattle.std.proofs.Common.{rules}
use Rattle.rtrb.specs.Ring.{known_items}
use Rattle.caller_feeds.specs.Feeds.{received_by, sent_by}
use Rattle.caller_feeds.proofs.ItemLemmas.{all_received}
use Rattle.caller_feeds.proofs.end.FeedEnd.meet.Goals as goal

pub returns-clause-all : goal.returns-clause-all
returns-clause-all c = λ has. all_received (received_by c.args.self.now) (known_items c.slots_beside.new.self) (sent_by c.args.handle.now) (search rules) (search rules) has
