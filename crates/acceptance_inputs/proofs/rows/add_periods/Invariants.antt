use Rattle.std.proofs.Common.{◌≡◌, ◌+◌, length}
use Rattle.acceptance_inputs.proofs.rows.add_periods.Given as goal

abbrev pub invariant-loop-row : goal.invariant-loop-row
invariant-loop-row l = length l.made.items ≡ length l.fn.made.items + l.row-index
