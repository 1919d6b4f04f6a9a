use Rattle.std.proofs.Common.{◌≡◌, ◌≤◌, length}
use Rattle.object_reader.specs.Statements.{statements_in}
use Rattle.object_reader.specs.Blocks.{block_of, with_directives}
use Rattle.object_reader.proofs.reading.directives.Given as goal

abbrev pub invariant-loop-directives : goal.invariant-loop-directives
invariant-loop-directives l =
    (block_of l.kind l.define (statements_in l.initial.lines) ≡ with_directives l.directives.items (block_of l.kind l.define (statements_in l.lines)))
    × (length (statements_in l.lines) ≤ length (statements_in l.initial.lines))

abbrev pub decreases-loop-directives : goal.decreases-loop-directives
decreases-loop-directives l = length (statements_in l.lines)
