use Rattle.std.proofs.Common.{◌≡◌, ◌≤◌, map}
use Rattle.due_model.specs.claims.Limits.{max_escalations}
use Rattle.object_escalations.specs.Escalated.{IsSoFar}
use Rattle.object_escalations.proofs.escalated.objects_of.Given as goal

-- The groups stay; the objects of the blocks so far, so many, within the limit.
abbrev pub invariant-loop-place : goal.invariant-loop-place
invariant-loop-place l = record {
  same_hosts : l.hosts ≡ l.initial.hosts;
  same_groups : l.groups ≡ l.initial.groups;
  far : IsSoFar l.templates l.lists l.place (map (λ list. list.items) l.found.items) l.count;
  low : l.count ≤ max_escalations;
}
