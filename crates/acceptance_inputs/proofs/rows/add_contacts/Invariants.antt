use Rattle.std.proofs.Common.{◌≡◌, ◌++◌, drop, map}
use Rattle.acceptance_inputs.specs.Tables.{contact_of}
use Rattle.acceptance_inputs.proofs.rows.add_contacts.Given as goal

abbrev pub invariant-loop-row : goal.invariant-loop-row
invariant-loop-row l = l.made.items ++ map contact_of (drop l.row-index l.rows) ≡ l.fn.made.items ++ map contact_of l.rows
