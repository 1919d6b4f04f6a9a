use Rattle.std.proofs.Common.{take}
use Rattle.std.specs.Prelude.{Contains}
use Rattle.object_unknown_services.specs.Stamps.{Stamped}
use Rattle.object_unknown_services.proofs.stamps.stamp_each.Given as goal

-- The hosts so far have the stamp.
abbrev pub invariant-loop-host : goal.invariant-loop-host
invariant-loop-host l = Stamped (Contains (take l.host-index l.hosts)) l.stamp l.initial.stamps l.stamps
