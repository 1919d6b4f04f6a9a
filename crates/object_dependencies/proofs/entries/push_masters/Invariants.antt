use Rattle.std.proofs.Common.{◌≡◌, ◌++◌, map, take}
use Rattle.object_dependencies.specs.claims.Entries.{entry_of}
use Rattle.object_dependencies.proofs.entries.push_masters.Given as goal

-- The dependencies of the masters so far.
abbrev pub invariant-loop-master : goal.invariant-loop-master
invariant-loop-master l = l.dependencies.items
    ≡ l.initial.dependencies.items ++ map (entry_of l.terms) (map (λ master. (l.fn.dependent, master)) (take l.master-index l.masters))
