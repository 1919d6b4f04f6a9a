use Rattle.std.proofs.Common.{take}
use Rattle.graph.specs.Lists.{AreInPlace}
use Rattle.graph.proofs.lists.place_each.Given as goal

-- The values so far are in place.
abbrev pub invariant-loop-one : goal.invariant-loop-one
invariant-loop-one g l = AreInPlace l.pushed (take l.one-index l.pushed) l.places l.values
