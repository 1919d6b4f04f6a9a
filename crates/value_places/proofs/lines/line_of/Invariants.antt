use Rattle.object_values.specs.Values.{texts}
use Rattle.value_places.specs.Lines.{IsSoFar}
use Rattle.value_places.proofs.lines.line_of.Given as goal

-- The lines so far.
abbrev pub invariant-loop-at : goal.invariant-loop-at
invariant-loop-at l = IsSoFar (texts l.lines) l.define l.name l.at l.number
