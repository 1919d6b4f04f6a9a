use Rattle.std.proofs.Common.{◌≡◌, length, reverse}
use Rattle.decider_thread.specs.Decided.{heard}
use Rattle.engine_threads.specs.Sent.{AreSame, HaveSent}
use Rattle.engine_threads.proofs.signals.send_each.Given as goal

abbrev pub invariant-loop : goal.invariant-loop
invariant-loop g l =
    AreSame l.fn.rings.items l.rings.items
    × HaveSent (heard (reverse (g.S.Source.given_so_far l.source))) l.rings.items
    × (length l.rings.items ≡ length l.fn.rings.items)
    × g.S.Source.goes l.config l.fn.source l.source
