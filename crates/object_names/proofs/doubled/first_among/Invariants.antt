use Rattle.std.proofs.Common.{take}
use Rattle.object_names.specs.Doubled.{IsDoubledAmong}
use Rattle.object_groups.specs.claims.First.{IsFirst}
use Rattle.object_names.proofs.doubled.first_among.Given as goal

-- The first of the types so far.
abbrev pub invariant-loop-kind : goal.invariant-loop-kind
invariant-loop-kind l = IsFirst (IsDoubledAmong l.objects (take l.kind-index l.kinds)) l.first
