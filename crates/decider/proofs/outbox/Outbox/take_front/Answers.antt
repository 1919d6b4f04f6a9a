use Rattle.std.proofs.Common.{rules, [], drop, deque_items}
use Rattle.std.proofs.lemmas.List.{length-map}
use Rattle.lemmas.proofs.Writes.{map-set_by}
use Rattle.decider.proofs.outbox.Outbox.take_front.Goals as goal

pub returns-clause-rest : goal.returns-clause-rest
returns-clause-rest c =
    map-set_by deque_items c.args.self.now.lanes.items c.args.lane.0 c.index_mut-queue.result.now _ [] (drop 1)
    (simp length-map at c.requires) c.index_mut-queue.ensures.value (search rules)
