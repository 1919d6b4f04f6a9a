use Rattle.std.proofs.Common.{◌≡◌, [], length}
use Rattle.engine_threads.specs.Works.{AreDeciderWorks, AreRings}
use Rattle.engine_threads.proofs.prepared.make_rings.Given as goal

abbrev pub invariant-loop-decider : goal.invariant-loop-decider
invariant-loop-decider l =
    (length l.senders.items ≡ l._decider)
    × (length l.works.items ≡ l._decider)
    × AreRings l.works.items l.senders.items
    × AreDeciderWorks [] l.works.items
