use Rattle.std.proofs.Common.{◌≡◌, length}
use Rattle.engine_threads.proofs.SentLaws.{SentBelow}
use Rattle.engine_threads.proofs.signals.send_all.Given as goal

abbrev pub invariant-loop-place : goal.invariant-loop-place
invariant-loop-place g l = SentBelow l.signal l.place l.fn.rings.items l.rings.items × (length l.rings.items ≡ length l.fn.rings.items)
