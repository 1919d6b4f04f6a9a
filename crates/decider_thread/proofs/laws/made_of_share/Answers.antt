use Rattle.std.proofs.Common.{◌≤◌, arith, length}
use Rattle.decider_thread.proofs.MadeLaws.{made_is_due, made_is_own, suppressed_in_order, suppressed_is_own, suppressed_is_sup, suppressed_named}
use Rattle.decider_thread.proofs.laws.made_of_share.Goals as goal

pub returns-clause-due : goal.returns-clause-due
returns-clause-due c = made_is_due

pub returns-clause-own : goal.returns-clause-own
returns-clause-own c = made_is_own

pub returns-clause-suppressed : goal.returns-clause-suppressed
returns-clause-suppressed c = suppressed_is_sup

pub returns-clause-nothing_else : goal.returns-clause-nothing_else
returns-clause-nothing_else c = suppressed_is_own

pub returns-clause-named : goal.returns-clause-named
returns-clause-named c = suppressed_named

pub returns-clause-order : goal.returns-clause-order
returns-clause-order c = λ config zone share past accepted. suppressed_in_order config zone share past (let few : length config.objects ≤ 65_535 = accepted.few_objects in omega (arith, few))
