-- The definitions compute.
use Rattle.std.proofs.Common.{refl}
use Rattle.due_model.specs.claims.Histories.{hist}
use Rattle.due_laws.proofs.rows.worked_examples.Goals as goal

pub returns-clause-renotify : goal.returns-clause-renotify
unfolding hist
returns-clause-renotify c = record { due = refl; suppressed = refl }

pub returns-clause-same_state_too_soon : goal.returns-clause-same_state_too_soon
unfolding hist
returns-clause-same_state_too_soon c = record { due = refl; suppressed = refl }

pub returns-clause-program_switch : goal.returns-clause-program_switch
unfolding hist
returns-clause-program_switch c = record { due = refl; suppressed = refl }
