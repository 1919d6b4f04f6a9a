use Rattle.object_escalations.proofs.escalated.EscalatedObjects.new.Goals as goal

pub objects_of-requires-clause-reached : goal.objects_of-requires-clause-reached
objects_of-requires-clause-reached c = c.in_ok-reached.ensures
