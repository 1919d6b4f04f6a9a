use Rattle.std.proofs.Common.{◌≡◌, ◌+◌, ◌++◌, map, take}
use Rattle.object_groups.specs.ListEdges.{between}
use Rattle.object_groups.specs.claims.Names.{numbers_of}
use Rattle.object_values.specs.Values.{texts}
use Rattle.object_groups.proofs.lists.push_names.Given as goal

-- The edges of the entries so far.
abbrev pub invariant-loop-entry : goal.invariant-loop-entry
invariant-loop-entry l = l.edges.items
    ≡ l.initial.edges.items ++ map (between l.direction l.node) (map (λ number. l.first + number) (numbers_of l.names (texts (take l.entry-index l.entries))))
