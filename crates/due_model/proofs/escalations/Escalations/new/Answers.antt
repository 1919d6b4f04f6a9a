use Rattle.std.proofs.Common.{List, subst}
use Rattle.due_model.specs.declared.config.Escalation.{Escalation}
use Rattle.due_model.specs.ByObject.{ArePlaces}
use Rattle.due_model.proofs.ByObjectLemmas.{places-kept}
use Rattle.due_model.proofs.escalations.Escalations.new.Goals as goal

pub invariant_of-result : goal.invariant_of-result
invariant_of-result c = subst (λ (es : List Escalation). ArePlaces es c.in_ok-places.places) c.as_slice.ensures.value
    (places-kept c.as_slice.result.now c.in_ok-places.places c.in_ok-places.ensures)
