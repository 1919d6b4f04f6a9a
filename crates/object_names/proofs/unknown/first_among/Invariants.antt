use Rattle.std.proofs.Common.{take}
use Rattle.object_groups.specs.claims.First.{IsFirst}
use Rattle.object_names.specs.Unknown.{HasUnknownAmong}
use Rattle.object_names.proofs.unknown.first_among.Given as goal

-- The first by the references so far.
abbrev pub invariant-loop-reference : goal.invariant-loop-reference
invariant-loop-reference l = IsFirst (HasUnknownAmong l.templates (take l.reference-index l.references)) l.first
