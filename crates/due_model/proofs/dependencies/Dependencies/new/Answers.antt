use Rattle.std.proofs.Common.{List, subst}
use Rattle.due_model.specs.declared.config.Dependency.{Dependency}
use Rattle.due_model.specs.ByObject.{AreEntries}
use Rattle.due_model.proofs.ByObjectLemmas.{entries-kept}
use Rattle.due_model.proofs.dependencies.Dependencies.new.Goals as goal

pub invariant_of-result : goal.invariant_of-result
invariant_of-result c = subst (λ (entries : List Dependency). AreEntries entries c.in_ok-entries.entries) c.as_slice.ensures.value
    (entries-kept c.as_slice.result.now c.in_ok-entries.entries c.in_ok-entries.ensures)
