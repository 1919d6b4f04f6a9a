use Rattle.choice_rows.proofs.ChoiceLaws.{all_heard, changes_end, clock_does_nothing, delays_run, own_rules, told_are_taken, unheard_leaves}
use Rattle.choice_rows.proofs.laws.mean_what_they_say.Goals as goal

pub returns-clause-unheard : goal.returns-clause-unheard
returns-clause-unheard c = unheard_leaves

pub returns-clause-heard : goal.returns-clause-heard
returns-clause-heard c = all_heard

pub returns-clause-wait : goal.returns-clause-wait
returns-clause-wait c = changes_end

pub returns-clause-delay : goal.returns-clause-delay
returns-clause-delay c = delays_run

pub returns-clause-told : goal.returns-clause-told
returns-clause-told c = told_are_taken

pub returns-clause-clock : goal.returns-clause-clock
returns-clause-clock c = clock_does_nothing

pub returns-clause-own : goal.returns-clause-own
returns-clause-own c = own_rules
