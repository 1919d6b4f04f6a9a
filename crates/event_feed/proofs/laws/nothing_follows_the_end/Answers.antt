use Rattle.event_feed.proofs.EndLaws.{nothing-follows}
use Rattle.event_feed.proofs.laws.nothing_follows_the_end.Goals as goal

pub returns : goal.returns
returns c = nothing-follows
