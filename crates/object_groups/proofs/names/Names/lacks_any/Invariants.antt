use Rattle.std.proofs.Common.{◌≡◌, false, take}
use Rattle.std.specs.List.{list_any}
use Rattle.object_groups.specs.claims.Names.{lacks}
use Rattle.object_groups.proofs.names.Names.lacks_any.Given as goal
use Rattle.object_values.specs.Values.{texts}

-- None of the entries so far is missing.
abbrev pub invariant-loop-entry : goal.invariant-loop-entry
invariant-loop-entry l = list_any (lacks l.self) (texts (take l.entry-index l.entries)) ≡ false
