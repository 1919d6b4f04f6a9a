use Rattle.std.proofs.Common.{◌≡◌, take}
use Rattle.object_groups.specs.claims.Names.{numbers_of}
use Rattle.object_values.specs.Values.{texts}
use Rattle.object_groups.proofs.names.numbers_of.Given as goal

-- The numbers of the entries so far.
abbrev pub invariant-loop-entry : goal.invariant-loop-entry
invariant-loop-entry l = l.numbers.items ≡ numbers_of l.names (texts (take l.entry-index l.entries))
