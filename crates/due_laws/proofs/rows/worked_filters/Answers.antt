-- The definitions compute.
use Rattle.std.proofs.Common.{refl}
use Rattle.due_model.specs.claims.Histories.{hist}
use Rattle.due_laws.proofs.rows.worked_filters.Goals as goal

pub returns-clause-downtime : goal.returns-clause-downtime
unfolding hist
returns-clause-downtime c = record { due = refl; suppressed = refl }

pub returns-clause-nested_downtimes : goal.returns-clause-nested_downtimes
unfolding hist
returns-clause-nested_downtimes c = (record { due = refl; suppressed = refl }, record { due = refl; suppressed = refl })

pub returns-clause-flapping : goal.returns-clause-flapping
unfolding hist
returns-clause-flapping c = record { due = refl; suppressed = refl }

pub returns-clause-dependency_chain : goal.returns-clause-dependency_chain
unfolding hist
returns-clause-dependency_chain c = (record { due = refl; suppressed = refl }, record { due = refl; suppressed = refl }, record { due = refl; suppressed = refl })

pub returns-clause-first_delay : goal.returns-clause-first_delay
unfolding hist
returns-clause-first_delay c = record { due = refl; suppressed = refl }

pub returns-clause-contact_options : goal.returns-clause-contact_options
unfolding hist
returns-clause-contact_options c = refl

pub returns-clause-acknowledged : goal.returns-clause-acknowledged
unfolding hist
returns-clause-acknowledged c = (record { due = refl; suppressed = refl }, record { due = refl; suppressed = refl })

pub returns-clause-acknowledged_up : goal.returns-clause-acknowledged_up
unfolding hist
returns-clause-acknowledged_up c = record { due = refl; suppressed = refl }

pub returns-clause-taken_back : goal.returns-clause-taken_back
unfolding hist
returns-clause-taken_back c = record { due = refl; suppressed = refl }

pub returns-clause-told_of_acknowledgements : goal.returns-clause-told_of_acknowledgements
unfolding hist
returns-clause-told_of_acknowledgements c = record { due = refl; suppressed = refl }

pub returns-clause-switched_off : goal.returns-clause-switched_off
unfolding hist
returns-clause-switched_off c = record { due = refl; suppressed = refl }

pub returns-clause-volatile_service : goal.returns-clause-volatile_service
unfolding hist
returns-clause-volatile_service c = record { due = refl; suppressed = refl }
