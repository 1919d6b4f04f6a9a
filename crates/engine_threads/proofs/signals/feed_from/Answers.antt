use Rattle.engine_threads.proofs.SentLaws.{same_all}
use Rattle.engine_threads.proofs.signals.feed_from.Goals as goal

pub returns-clause-same : goal.returns-clause-same
returns-clause-same g c = same_all c.args.rings.now.items c.send_each-memory.new.rings.items c.send_all.new.rings.items c.send_all.ensures.count c.send_each-memory.ensures.same c.send_all.ensures.same
