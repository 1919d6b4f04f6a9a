use Rattle.std.proofs.Common.{take}
use Rattle.object_unknown_services.specs.Keys.{Adds}
use Rattle.object_unknown_services.proofs.KeyLemmas.{Pushed}
use Rattle.object_values.specs.Values.{texts}
use Rattle.object_unknown_services.proofs.keys.push_each.Given as goal

-- The place is added for the descriptions so far.
abbrev pub invariant-loop-description : goal.invariant-loop-description
invariant-loop-description l = Adds (Pushed l.names (texts (take l.description-index l.descriptions)) l.place) l.initial.lists l.lists
