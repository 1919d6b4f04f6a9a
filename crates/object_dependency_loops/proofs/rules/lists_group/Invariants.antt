use Rattle.std.proofs.Common.{take}
use Rattle.std.specs.Prelude.{All}
use Rattle.object_reached.specs.claims.Roles.{directives_of}
use Rattle.object_dependency_loops.specs.Described.{ListsNoGroup}
use Rattle.object_dependency_loops.proofs.rules.lists_group.Given as goal

-- None of the blocks so far lists a service group.
abbrev pub invariant-loop-place : goal.invariant-loop-place
invariant-loop-place l = All (ListsNoGroup l.reached.blocks (directives_of l.reached.role)) (take l.place-index l.places)
