use Rattle.std.proofs.Common.{◌≡◌, false, take}
use Rattle.std.specs.List.{list_any}
use Rattle.object_groups.specs.claims.Names.{is_exclusion}
use Rattle.object_values.specs.Values.{texts}
use Rattle.object_groups.proofs.names.has_exclusion.Given as goal

abbrev pub invariant-loop-entry : goal.invariant-loop-entry
invariant-loop-entry l = list_any is_exclusion (texts (take l.entry-index l.entries)) ≡ false
