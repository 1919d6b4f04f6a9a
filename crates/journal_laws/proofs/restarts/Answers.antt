use Rattle.journal_laws.proofs.Orders.{goes_on, none_lost}
use Rattle.journal_laws.proofs.restarts.Goals as goal

pub returns-clause-once : goal.returns-clause-once
returns-clause-once c = none_lost c.only_grows.ensures.due c.stand_once.ensures.order c.tell_of_events.ensures.events c.each_once.ensures

pub returns-clause-goes_on : goal.returns-clause-goes_on
returns-clause-goes_on c = goes_on c.only_grows.ensures.due c.stand_once.ensures.order c.tell_of_events.ensures.events c.each_once.ensures
