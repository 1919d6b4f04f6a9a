use Rattle.std.proofs.Common.{◌≡◌, ◌++◌, length}
use Rattle.std.specs.Prelude.{reverse}
use Rattle.object_inheritance.specs.Columns.{line_of}
use Rattle.object_inheritance.specs.claims.Inherited.{joined_entries}
use Rattle.object_values.specs.Values.{texts}
use Rattle.object_inheritance.proofs.inherited.Values.joined.Given as goal

-- The entries of the texts that are left, and then those so far.
abbrev pub invariant-loop-given : goal.invariant-loop-given
invariant-loop-given l = joined_entries (line_of l.self.blocks l.self.directive l.given) ++ reverse (texts l.list.items)
    ≡ joined_entries (line_of l.self.blocks l.self.directive l.initial.given)

abbrev pub decreases-loop-given : goal.decreases-loop-given
decreases-loop-given l = length (line_of l.self.blocks l.self.directive l.given)
