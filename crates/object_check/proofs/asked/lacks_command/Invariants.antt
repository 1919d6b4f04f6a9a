use Rattle.std.proofs.Common.{◌≡◌, false, take}
use Rattle.std.specs.List.{list_any}
use Rattle.object_groups.specs.claims.Names.{lacks}
use Rattle.object_check.proofs.asked.lacks_command.Given as goal
use Rattle.object_values.specs.claims.Values.{command_name}
use Rattle.object_values.specs.Values.{texts}

-- None of the commands so far is missing.
abbrev pub invariant-loop-entry : goal.invariant-loop-entry
invariant-loop-entry l = list_any (λ entry. lacks l.names (command_name entry)) (texts (take l.entry-index l.entries)) ≡ false
