use Rattle.std.proofs.Common.{◌≡◌, [], ◌∷◌, ◌++◌, length}
use Rattle.due_times.specs.Levels.{leaves}
use Rattle.due_times.proofs.Climbing.{Climbs}
use Rattle.due_times.proofs.levels_of.Given as goal

abbrev pub invariant-loop-alloc : goal.invariant-loop-alloc
invariant-loop-alloc l = record {
  climbs : Climbs (l.levels.items ++ l.last ∷ []);
  leaves : leaves (l.levels.items ++ l.last ∷ []) ≡ l.fn.moments.items;
}

abbrev pub decreases-loop-alloc : goal.decreases-loop-alloc
decreases-loop-alloc l = length l.last
