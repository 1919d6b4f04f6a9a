use Rattle.due_laws.proofs.LastEvent.{hard_of_last, flapping_of_last, own_switch_of_last, switch_of_last}
use Rattle.due_laws.proofs.readings.follow_the_last_event.Goals as goal

pub returns-clause-hard : goal.returns-clause-hard
returns-clause-hard x o feed = hard_of_last o feed

pub returns-clause-flapping : goal.returns-clause-flapping
returns-clause-flapping x o feed = flapping_of_last o feed

pub returns-clause-switch : goal.returns-clause-switch
returns-clause-switch x feed = switch_of_last feed

pub returns-clause-own_switch : goal.returns-clause-own_switch
returns-clause-own_switch x o object feed = own_switch_of_last o object feed
