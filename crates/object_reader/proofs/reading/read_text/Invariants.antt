use Rattle.std.proofs.Common.{◌≡◌, length}
use Rattle.object_reader.specs.Blocks.{blocks_of, with_blocks}
use Rattle.object_reader.specs.Statements.{statements_in, statements_of}
use Rattle.object_reader.proofs.reading.read_text.Given as goal

abbrev pub invariant-loop-found : goal.invariant-loop-found
invariant-loop-found l = blocks_of (statements_of l.bytes) ≡ with_blocks l.found.items (blocks_of (statements_in l.lines))

abbrev pub decreases-loop-found : goal.decreases-loop-found
decreases-loop-found l = length (statements_in l.lines)
