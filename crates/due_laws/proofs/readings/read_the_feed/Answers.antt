use Rattle.due_laws.proofs.Begins.{begin_at_moment, begin_outcomes, begin_notices, begin_exists}
use Rattle.due_laws.proofs.ReadingLaws.{greatest_stamp, ready_by_last, never_ready, down_where_outnumbered}
use Rattle.due_laws.proofs.readings.read_the_feed.Goals as goal

pub returns-clause-moment : goal.returns-clause-moment
returns-clause-moment x feed = greatest_stamp feed

pub returns-clause-ready : goal.returns-clause-ready
returns-clause-ready x = record { by_last = ready_by_last; never = never_ready }

pub returns-clause-downtime : goal.returns-clause-downtime
returns-clause-downtime x o feed = down_where_outnumbered o feed

pub returns-clause-begin : goal.returns-clause-begin
returns-clause-begin x = record { at_moment = begin_at_moment; outcomes = begin_outcomes; notices = begin_notices; exists = begin_exists }
