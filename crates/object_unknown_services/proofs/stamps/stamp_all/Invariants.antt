use Rattle.std.proofs.Common.{◌≡◌, take}
use Rattle.object_unknown_services.specs.Stamps.{IsHostOf, Stamped}
use Rattle.object_unknown_services.proofs.stamps.stamp_all.Given as goal

-- The groups stay, and the hosts of the blocks so far have the stamp.
abbrev pub invariant-loop-place : goal.invariant-loop-place
invariant-loop-place l = record {
  same : l.hosts ≡ l.initial.hosts;
  stamped : Stamped (IsHostOf l.services (take l.place-index l.places)) l.stamp l.initial.stamps l.stamps;
}
