use Rattle.std.proofs.Common.{◌≡◌, length}
use Rattle.object_inheritance.specs.Columns.{line_of}
use Rattle.object_inheritance.specs.claims.Inherited.{joined_entries}
use Rattle.object_inheritance.specs.Inherited.{has_any, has_entries}
use Rattle.object_inheritance.proofs.inherited.Values.has_entries.Given as goal

-- The texts that are left have an entry where the list has one.
abbrev pub invariant-loop-left : goal.invariant-loop-left
invariant-loop-left l = has_any (joined_entries (line_of l.self.blocks l.self.directive l.left)) ≡ has_entries l.self.blocks l.self.directive l.place

abbrev pub decreases-loop-left : goal.decreases-loop-left
decreases-loop-left l = length (line_of l.self.blocks l.self.directive l.left)
