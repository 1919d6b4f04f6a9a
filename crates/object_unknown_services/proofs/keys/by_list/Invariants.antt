use Rattle.std.proofs.Common.{take}
use Rattle.std.specs.Prelude.{Contains}
use Rattle.object_unknown_services.specs.Keys.{AreListsOf}
use Rattle.object_unknown_services.proofs.keys.by_list.Given as goal

-- The places so far are there.
abbrev pub invariant-loop-pair : goal.invariant-loop-pair
invariant-loop-pair l = AreListsOf l.blocks (λ list place. Contains (take l.pair-index l.found) (place, list)) l.lists
