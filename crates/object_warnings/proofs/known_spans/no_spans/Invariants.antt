use Rattle.std.proofs.Common.{Bool, List}
use Rattle.object_warnings.specs.Hours.{AreKnown}
use Rattle.object_warnings.proofs.known_spans.no_spans.Given as goal

-- None in any of the slots so far.
abbrev pub invariant-loop-slot : goal.invariant-loop-slot
invariant-loop-slot l = (rows : List (List Bool)) → AreKnown rows l.known.items
