use Rattle.std.proofs.Common.{◌≡◌, ◌++◌, map, take}
use Rattle.object_dependencies.specs.claims.Entries.{entry_of}
use Rattle.object_dependencies.specs.Pairs.{paired}
use Rattle.object_dependencies.proofs.entries.push_pairs.Given as goal

-- The dependencies of the dependents so far.
abbrev pub invariant-loop-dependent : goal.invariant-loop-dependent
invariant-loop-dependent l = l.dependencies.items
    ≡ l.initial.dependencies.items ++ map (entry_of l.terms) (paired (take l.dependent-index l.dependents) l.masters)
