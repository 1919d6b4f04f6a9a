use Rattle.std.proofs.Common.{◌≡◌, ◌∷◌, [], List, None, Ok, Some, refl, rules}
use Rattle.std.proofs.lemmas.Option.{IfSome_then}
use Rattle.std.proofs.lemmas.Result.{IfOk-weaker}
use Rattle.event_feed.specs.claims.Feed.{Answer, AreGivenBy, refusal}
use Rattle.event_feed.specs.FeedLaws.{event_answers, fault_last, next_given, none_given}
use Rattle.due_feed.proofs.SearchLaws.{event_taken, fault_taken, if_none, past_at_end, taken_same}
use Rattle.due_feed.proofs.search.Search.take_line.Given.{Over}
use Rattle.due_feed.proofs.search.Search.take_line.Goals.{After-take_event}
use Rattle.due_feed.proofs.search.Search.take_line.Goals as goal

pub returns-in-Ok-None-clause-ends : goal.returns-in-Ok-None-clause-ends
returns-in-Ok-None-clause-ends g c =
    let gives = rw c.in-Ok-None.field-0-is at c.in-Ok-None.ensures.none in
    record {
      same = refl;
      seen = g.L.Looker.stays c.args.looker.now;
      each = λ past s. ([], none_given g.R.Input.can_fail c.args.self.now.config.now.objects c.args.self.now.feeder c.next.new.self gives.answers, refl);
    }

-- the answer of an event
abbrev answer_of : (g : Over) → After-take_event g → Answer
answer_of g c = record { line = c.next.new.self.line; given = Ok c.in-Ok-Some.event }

-- and what is given of the feed with it
more : (g : Over) (c : After-take_event g) → (others : List Answer) × AreGivenBy g.R.Input.can_fail c.args.self.now.config.now.objects c.args.self.now.feeder (answer_of g c ∷ others)
more g c =
    let gives = rw c.in-Ok-Some.field-0-is at c.in-Ok-Some.ensures.event in
    let config = c.args.self.now.config.now in
    next_given g.R.Input.can_fail config.objects c.args.self.now.feeder c.next.new.self (answer_of g c)
    (event_answers config c.args.self.now.feeder c.next.new.self c.in-Ok-Some.event c.next.new.self.line refl gives)

pub returns-in-Ok-Some-clause-goes_on : goal.returns-in-Ok-Some-clause-goes_on
returns-in-Ok-Some-clause-goes_on g c =
    let gives = rw c.in-Ok-Some.field-0-is at c.in-Ok-Some.ensures.event in
    let config = c.args.self.now.config.now in
    let answer = answer_of g (goal.at.returns-in-Ok-Some-clause-goes_on g c).After-take_event in
    IfOk-weaker c.take_event.result _ _
    (λ over. if_none _ _ over (λ on. record {
      each = λ past s counted.
          let now = on past s counted in (
            answer,
            taken_same config.objects past c.args.self.now.feeder answer c.next.new.self c.take_event.new.self.feeder c.take_event.ensures.feed
                (event_taken config past c.args.self.now.feeder c.next.new.self c.in-Ok-Some.event now.0 gives),
            now.1,
            now.2,
            now.3,
          );
    }))
    c.take_event.ensures.goes_on

pub returns-in-Ok-Some-clause-ends : goal.returns-in-Ok-Some-clause-ends
returns-in-Ok-Some-clause-ends g c =
    let here = (goal.at.returns-in-Ok-Some-clause-ends g c).After-take_event in
    let answer = answer_of g here in
    let others = more g here in
    IfOk-weaker c.take_event.result _ _
    (λ over found. IfSome_then over found (λ count at.
    let now = at c.requires.fits.0 c.requires.fits.1 in
    record {
      same = now.1;
      seen = now.2;
      each = λ past s. (answer ∷ others.0, others.1, past_at_end past answer others.0 (at past s).0);
    }))
    c.take_event.ensures.ends

pub returns-in-Ok-Some-clause-stopped : goal.returns-in-Ok-Some-clause-stopped
returns-in-Ok-Some-clause-stopped g c = λ is.
    let here = (goal.at.returns-in-Ok-Some-clause-stopped g c).After-take_event in
    let others = more g here in
    let stopped = c.take_event.ensures.stopped is in
    record {
      each = λ past s. (answer_of g here, others.0, others.1, (stopped past s).0, (stopped past s).1);
    }

pub returns-in-None-clause-goes_on : goal.returns-in-None-clause-goes_on
returns-in-None-clause-goes_on g c =
    let stopped : c.next.new.self.stop ≡ None = search rules in
    record {
      each = λ past s counted. (
        refusal c.in-Err.field-0,
        fault_taken c.args.self.now.config.now.objects past c.args.self.now.feeder c.next.new.self c.in-Err.field-0 stopped c.in-Err.ensures.fault,
        s,
        counted,
        g.L.Looker.stays c.args.looker.now,
      );
    }

pub returns-in-Some-clause-ends : goal.returns-in-Some-clause-ends
returns-in-Some-clause-ends g c =
    let stopped : c.next.new.self.stop ≡ Some c.in-Some.field-0 = search rules in
    let last = fault_last g.R.Input.can_fail c.args.self.now.config.now.objects c.args.self.now.feeder c.next.new.self c.in-Err.field-0 c.in-Some.field-0 stopped c.in-Err.ensures.fault c.in-Err.ensures.last in
    record {
      same = refl;
      seen = g.L.Looker.stays c.args.looker.now;
      each = λ past s. (refusal c.in-Err.field-0 ∷ [], last.0, refl);
    }
