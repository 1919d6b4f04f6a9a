use Rattle.std.proofs.Common.{◌<◌}
use Rattle.object_warnings.proofs.known_spans.slot_of.Given as goal

-- One of the slots.
abbrev pub invariant-loop-other : goal.invariant-loop-other
invariant-loop-other l = l.slot < 4_096
