-- The definitions compute.
use Rattle.std.proofs.Common.{refl}
use Rattle.due_model.specs.claims.Histories.{hist}
use Rattle.due_laws.proofs.rows.worked_escalations.Goals as goal

pub returns-clause-escalation_and_recovery : goal.returns-clause-escalation_and_recovery
unfolding hist
returns-clause-escalation_and_recovery c = record { due = refl; suppressed = refl }

pub returns-clause-overlapping : goal.returns-clause-overlapping
unfolding hist
returns-clause-overlapping c = record { due = refl; suppressed = refl }

pub returns-clause-interval_zero : goal.returns-clause-interval_zero
unfolding hist
returns-clause-interval_zero c = record { due = refl; suppressed = refl }

pub returns-clause-options : goal.returns-clause-options
unfolding hist
returns-clause-options c = record { due = refl; suppressed = refl }

pub returns-clause-period : goal.returns-clause-period
unfolding hist
returns-clause-period c = record { due = refl; suppressed = refl }

pub returns-clause-own_contacts : goal.returns-clause-own_contacts
unfolding hist
returns-clause-own_contacts c = record { due = refl; suppressed = refl }
