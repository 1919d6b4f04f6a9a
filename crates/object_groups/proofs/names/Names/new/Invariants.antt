use Rattle.std.proofs.Common.{take}
use Rattle.object_groups.specs.Names.{HasNumbers}
use Rattle.object_values.specs.Values.{texts}
use Rattle.object_groups.proofs.names.Names.new.Given as goal

-- The numbers of the names so far.
abbrev pub invariant-loop-number : goal.invariant-loop-number
invariant-loop-number l = HasNumbers (texts (take l.number l.names.items)) l.numbers.entries
