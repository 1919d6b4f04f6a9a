use Rattle.std.proofs.Common.{◌≡◌, ◌++◌, take, drop}
use Rattle.object_reader.specs.Statements.{bare_from}
use Rattle.object_reader.proofs.statement.before_comment.Given as goal

abbrev pub invariant-loop-i : goal.invariant-loop-i
invariant-loop-i l = bare_from 0 l.bytes ≡ take l.i l.bytes ++ bare_from l.last (drop l.i l.bytes)
