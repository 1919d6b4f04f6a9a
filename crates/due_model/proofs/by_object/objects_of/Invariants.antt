use Rattle.std.proofs.Common.{◌<◌, take}
use Rattle.std.specs.Prelude.{All}
use Rattle.due_model.proofs.by_object.objects_of.Given as goal

-- Those so far are among so many.
abbrev pub invariant-loop-entry : goal.invariant-loop-entry
invariant-loop-entry g l = All (λ x. g.E.ByObject.number x < l.objects) (take l.entry-index l.entries)
