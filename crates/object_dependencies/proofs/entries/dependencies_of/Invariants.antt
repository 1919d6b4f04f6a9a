use Rattle.std.proofs.Common.{◌≡◌, length, take}
use Rattle.std.specs.List.{sum_by}
use Rattle.object_dependencies.specs.claims.Entries.{entries_in}
use Rattle.object_dependencies.proofs.entries.dependencies_of.Given as goal

-- The dependencies of the blocks so far, as many as these have pairs.
abbrev pub invariant-loop-place : goal.invariant-loop-place
invariant-loop-place l = record {
  made : l.dependencies.items ≡ entries_in l.templates l.periods l.pairs l.place;
  many : length l.dependencies.items ≡ sum_by length (take l.place l.pairs);
}
