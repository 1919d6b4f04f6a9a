use Rattle.std.proofs.Common.{◌≡◌, ◌++◌, drop, map}
use Rattle.acceptance_inputs.specs.Tables.{escalation_of}
use Rattle.acceptance_inputs.proofs.rows.add_escalations.Given as goal

abbrev pub invariant-loop-row : goal.invariant-loop-row
invariant-loop-row l = l.made.items ++ map escalation_of (drop l.row-index l.rows) ≡ l.fn.made.items ++ map escalation_of l.rows
