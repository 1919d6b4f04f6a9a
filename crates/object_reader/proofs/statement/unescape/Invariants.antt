use Rattle.std.proofs.Common.{◌≡◌, ◌++◌, length}
use Rattle.object_reader.specs.Statements.{unescaped}
use Rattle.object_reader.proofs.statement.unescape.Given as goal

abbrev pub invariant-loop-left : goal.invariant-loop-left
invariant-loop-left l = unescaped l.bytes ≡ l.meant.items ++ unescaped l.left

abbrev pub decreases-loop-left : goal.decreases-loop-left
decreases-loop-left l = length l.left
