use Rattle.std.proofs.Common.{take}
use Rattle.due_model.proofs.ByObjectLemmas.{HasKept}
use Rattle.due_model.proofs.by_object.lists_by_object.Given as goal

-- The lists have what is kept of the entries so far.
abbrev pub invariant-loop-place : goal.invariant-loop-place
invariant-loop-place g l = HasKept g.E.ByObject.number g.E.ByObject.kept l.objects (take l.place l.entries) l.lists
