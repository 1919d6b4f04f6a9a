use Rattle.std.proofs.Common.{◌≡◌, ◌++◌, drop, map}
use Rattle.acceptance_inputs.specs.Tables.{object_of}
use Rattle.acceptance_inputs.proofs.rows.add_objects.Given as goal

abbrev pub invariant-loop-row : goal.invariant-loop-row
invariant-loop-row l = l.made.items ++ map object_of (drop l.row-index l.rows) ≡ l.fn.made.items ++ map object_of l.rows
