use Rattle.std.proofs.Common.{◌∙◌, subst}
use Rattle.decider_thread.specs.claims.Decided.{IsOlder}
use Rattle.decider_thread.specs.Made.{made_due}
use Rattle.engine_threads.proofs.ends.meet_one.Goals as goal

pub returns-clause-met : goal.returns-clause-met
returns-clause-met c = λ config zone n d events told e.
    let same = c.compare.ensures e.decided.all events e.decided.heard_all e.sent_all in record {
      past = e.decided.past;
      older = subst (IsOlder e.decided.past) same e.decided.older;
      whole = λ m. e.decided.whole m ∙ same;
      picked = c.join_seats.ensures.picked d (λ l. made_due config zone (record { decider = d; deciders = n }) l e.decided.past) e.decided.seats;
      log = e.decided.log;
    }
