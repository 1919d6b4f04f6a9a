use Rattle.std.proofs.Common.{◌≡◌, map, take}
use Rattle.object_values.specs.claims.Values.{command_name}
use Rattle.object_values.specs.Values.{texts}
use Rattle.object_warnings.proofs.unused.commands_of.Given as goal

-- The names so far.
abbrev pub invariant-loop-entry : goal.invariant-loop-entry
invariant-loop-entry l = texts l.names.items ≡ map command_name (texts (take l.entry-index l.list))
