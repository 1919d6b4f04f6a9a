-- The definitions compute.
use Rattle.std.proofs.Common.{refl}
use Rattle.due_model.specs.claims.Histories.{hist}
use Rattle.choice_rows.proofs.rows.worked_choices.Goals as goal

pub returns-clause-host_down_own : goal.returns-clause-host_down_own
unfolding hist
returns-clause-host_down_own c = record { due = refl; suppressed = refl }

pub returns-clause-host_down_nagios : goal.returns-clause-host_down_nagios
unfolding hist
returns-clause-host_down_nagios c = record { due = refl; suppressed = refl }

pub returns-clause-host_repeats_own : goal.returns-clause-host_repeats_own
unfolding hist
returns-clause-host_repeats_own c = record { due = refl; suppressed = refl }

pub returns-clause-host_repeats_nagios : goal.returns-clause-host_repeats_nagios
unfolding hist
returns-clause-host_repeats_nagios c = record { due = refl; suppressed = refl }

pub returns-clause-host_dep_own : goal.returns-clause-host_dep_own
unfolding hist
returns-clause-host_dep_own c = record { due = refl; suppressed = refl }

pub returns-clause-host_dep_nagios : goal.returns-clause-host_dep_nagios
unfolding hist
returns-clause-host_dep_nagios c = record { due = refl; suppressed = refl }

pub returns-clause-nobody_own : goal.returns-clause-nobody_own
unfolding hist
returns-clause-nobody_own c = record { due = refl; suppressed = refl }

pub returns-clause-nobody_nagios : goal.returns-clause-nobody_nagios
unfolding hist
returns-clause-nobody_nagios c = record { due = refl; suppressed = refl }

pub returns-clause-told_own : goal.returns-clause-told_own
unfolding hist
returns-clause-told_own c = record { due = refl; suppressed = refl }

pub returns-clause-told_nagios : goal.returns-clause-told_nagios
unfolding hist
returns-clause-told_nagios c = record { due = refl; suppressed = refl }

pub returns-clause-reset_wait_own : goal.returns-clause-reset_wait_own
unfolding hist
returns-clause-reset_wait_own c = record { due = refl; suppressed = refl }

pub returns-clause-reset_wait_nagios : goal.returns-clause-reset_wait_nagios
unfolding hist
returns-clause-reset_wait_nagios c = record { due = refl; suppressed = refl }

pub returns-clause-delay_own : goal.returns-clause-delay_own
unfolding hist
returns-clause-delay_own c = record { due = refl; suppressed = refl }

pub returns-clause-delay_nagios : goal.returns-clause-delay_nagios
unfolding hist
returns-clause-delay_nagios c = record { due = refl; suppressed = refl }

pub returns-clause-period_wait_own : goal.returns-clause-period_wait_own
unfolding hist
returns-clause-period_wait_own c = record { due = refl; suppressed = refl }

pub returns-clause-period_wait_nagios : goal.returns-clause-period_wait_nagios
unfolding hist
returns-clause-period_wait_nagios c = record { due = refl; suppressed = refl }

pub returns-clause-downtime_wait_own : goal.returns-clause-downtime_wait_own
unfolding hist
returns-clause-downtime_wait_own c = record { due = refl; suppressed = refl }

pub returns-clause-downtime_wait_nagios : goal.returns-clause-downtime_wait_nagios
unfolding hist
returns-clause-downtime_wait_nagios c = record { due = refl; suppressed = refl }

pub returns-clause-esc_other_own : goal.returns-clause-esc_other_own
unfolding hist
returns-clause-esc_other_own c = record { due = refl; suppressed = refl }

pub returns-clause-esc_other_nagios : goal.returns-clause-esc_other_nagios
unfolding hist
returns-clause-esc_other_nagios c = record { due = refl; suppressed = refl }

pub returns-clause-at_results_own : goal.returns-clause-at_results_own
unfolding hist
returns-clause-at_results_own c = record { due = refl; suppressed = refl }

pub returns-clause-at_results_nagios : goal.returns-clause-at_results_nagios
unfolding hist
returns-clause-at_results_nagios c = record { due = refl; suppressed = refl }

pub returns-clause-dep_pending_own : goal.returns-clause-dep_pending_own
unfolding hist
returns-clause-dep_pending_own c = record { due = refl; suppressed = refl }

pub returns-clause-dep_pending_nagios : goal.returns-clause-dep_pending_nagios
unfolding hist
returns-clause-dep_pending_nagios c = record { due = refl; suppressed = refl }

pub returns-clause-dep_letter_own : goal.returns-clause-dep_letter_own
unfolding hist
returns-clause-dep_letter_own c = record { due = refl; suppressed = refl }

pub returns-clause-dep_letter_nagios : goal.returns-clause-dep_letter_nagios
unfolding hist
returns-clause-dep_letter_nagios c = record { due = refl; suppressed = refl }

pub returns-clause-order_own : goal.returns-clause-order_own
unfolding hist
returns-clause-order_own c = record { due = refl; suppressed = refl }

pub returns-clause-order_nagios : goal.returns-clause-order_nagios
unfolding hist
returns-clause-order_nagios c = record { due = refl; suppressed = refl }
