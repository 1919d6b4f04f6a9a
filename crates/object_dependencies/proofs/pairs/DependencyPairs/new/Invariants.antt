use Rattle.std.proofs.Common.{◌≡◌, ◌≤◌}
use Rattle.due_model.specs.claims.Limits.{max_dependencies}
use Rattle.object_dependencies.specs.Limits.{IsSoFar}
use Rattle.object_dependencies.proofs.pairs.DependencyPairs.new.Given as goal

-- The groups stay; the pairs of the blocks so far, so many, within the limit.
abbrev pub invariant-loop-place : goal.invariant-loop-place
invariant-loop-place l = record {
  same_hosts : l.hosts ≡ l.initial.hosts;
  same_groups : l.groups ≡ l.initial.groups;
  far : IsSoFar l.fn.blocks.blocks l.fn.blocks.lists l.place l.sides.items l.count;
  low : l.count ≤ max_dependencies;
}
