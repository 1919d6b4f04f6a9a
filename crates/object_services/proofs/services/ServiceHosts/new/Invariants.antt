use Rattle.std.proofs.Common.{◌≡◌, ◌≤◌, map}
use Rattle.due_model.specs.claims.Limits.{max_objects}
use Rattle.object_services.specs.Limits.{IsSoFar}
use Rattle.object_services.proofs.services.ServiceHosts.new.Given as goal

-- The groups stay; the hosts of the service blocks so far, and how many objects there are, within the limit.
abbrev pub invariant-loop-place : goal.invariant-loop-place
invariant-loop-place l = record {
  same : l.hosts ≡ l.initial.hosts;
  far : IsSoFar l.services l.place (map (λ list. list.items) l.lists.items) l.count;
  low : l.count ≤ max_objects;
}
