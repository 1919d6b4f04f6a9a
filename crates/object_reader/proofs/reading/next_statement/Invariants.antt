use Rattle.std.proofs.Common.{◌≡◌, length}
use Rattle.object_reader.specs.Statements.{statements_in}
use Rattle.object_reader.proofs.reading.next_statement.Given as goal

abbrev pub invariant-loop-joined : goal.invariant-loop-joined
invariant-loop-joined l = statements_in l.initial.lines ≡ statements_in l.lines

abbrev pub decreases-loop-joined : goal.decreases-loop-joined
decreases-loop-joined l = length l.lines
