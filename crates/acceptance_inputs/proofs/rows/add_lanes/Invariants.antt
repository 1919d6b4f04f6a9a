use Rattle.std.proofs.Common.{◌≡◌, ◌++◌, replicate}
use Rattle.acceptance_inputs.specs.Tables.{mail}
use Rattle.acceptance_inputs.proofs.rows.add_lanes.Given as goal

abbrev pub invariant-loop-lane : goal.invariant-loop-lane
invariant-loop-lane l = l.made.items ≡ l.fn.made.items ++ replicate l._lane mail
