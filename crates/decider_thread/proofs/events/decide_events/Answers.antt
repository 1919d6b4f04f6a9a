use Rattle.std.proofs.Common.{rules, true, false, sym, subst, ap, ◌∙◌, ◌≡◌, ◌++◌, ◌∷◌, [], List, length, slice_index_or}
use Rattle.due_model.specs.declared.notice.Notice.{Notice}
use Rattle.rtrb.specs.Ring.{SameConsumer, received}
use Rattle.decider.specs.claims.Fits.{Kept, kept}
use Rattle.decider.specs.claims.Outbox.{lists, waiting_at}
use Rattle.decider_thread.specs.declared.Signal.{Signal}
use Rattle.decider_thread.specs.declared.Signal.TheVariants.{Decides, Over}
use Rattle.decider_thread.specs.Decided.{HasStopped}
use Rattle.decider_thread.specs.Made.{made_due}
use Rattle.decider_thread.proofs.StandLaws.{stands_put, stops_before, stops_over}
use Rattle.decider_thread.proofs.events.decide_events.Goals as goal

pub put_round-moved-requires-clause-puts : goal.put_round-moved-requires-clause-puts
put_round-moved-requires-clause-puts g c =
    let s = c.requires.stands in
    let was = c.loop.invariant.1 s.0 s.1 in
    ((λ l. made_due c.args.setup.config.now s.0 c.args.setup.share l was.0), was.2.puts)

pub loop-preserved-then-moved : goal.loop-preserved-then-moved
loop-preserved-then-moved g c =
    let inv = c.loop.invariant in
    let same : SameConsumer c.args.ring.now c.next_signal.new.ring = search rules in
    let got : received c.next_signal.new.ring ≡ received c.loop.ring = search rules in (
      same,
      (λ zone stands.
          let was = inv.1 zone stands in
          (was.0, got ∙ was.1, stands_put _ _ _ _ _ _ _ _ _ was.2 _ _ c.put_round-moved.ensures.puts)),
      c.put_round-moved.ensures.seats ∙ inv.2,
      c.put_round-moved.ensures.lanes ∙ inv.3,
      inv.4,
    )

pub loop-preserved-else-moved : goal.loop-preserved-else-moved
loop-preserved-else-moved g c =
    let inv = c.loop.invariant in
    let same : SameConsumer c.args.ring.now c.next_signal.new.ring = search rules in
    let got : received c.next_signal.new.ring ≡ received c.loop.ring = search rules in (
      same,
      (λ zone stands.
          let was = inv.1 zone stands in
          (was.0, got ∙ was.1, stands_put _ _ _ _ _ _ _ _ _ was.2 _ _ c.put_round-moved.ensures.puts)),
      c.put_round-moved.ensures.seats ∙ inv.2,
      c.put_round-moved.ensures.lanes ∙ inv.3,
      inv.4,
    )

pub returns-in-Some-Over-clause-stopped : goal.returns-in-Some-Over-clause-stopped
returns-in-Some-Over-clause-stopped g c = λ zone stands.
    let was = c.loop.invariant.1 zone stands in
    let got : received c.next_signal.new.ring ≡ received c.loop.ring ++ Over ∷ [] = search rules in
    let now = stands_put _ _ _ _ _ _ _ _ _ was.2 _ _ c.put_round-moved.ensures.puts in
    stops_over _ _ _ _ _ _ _ _ _ now _ (got ∙ ap (λ (ss : List Signal). ss ++ Over ∷ []) was.1)

pub returns-then-load-clause-stopped : goal.returns-then-load-clause-stopped
returns-then-load-clause-stopped g c = λ zone stands.
    let was = c.loop.invariant.1 zone stands in
    let event = c.in-Some-Decides.event in
    let got : received c.next_signal.new.ring ≡ received c.loop.ring ++ Decides event ∷ [] = search rules in
    let now = stands_put _ _ _ _ _ _ _ _ _ was.2 _ _ c.put_round-moved.ensures.puts in
    stops_before _ _ _ _ _ _ _ _ _ now event _ (got ∙ ap (λ (ss : List Signal). ss ++ Decides event ∷ []) was.1)

pub decide_event-requires-clause-stands : goal.decide_event-requires-clause-stands
decide_event-requires-clause-stands g c κs within =
    let s = c.requires.stands in
    let was = c.loop.invariant.1 s.0 s.1 in
    (s.0, c.args.setup.share, c.args.setup.queues.now, c.put_round-moved.new.seats, was.0, c.args.log.now, stands_put _ _ _ _ _ _ _ _ _ was.2 _ _ c.put_round-moved.ensures.puts)

pub returns-then-not-decide_event-clause-stopped : goal.returns-then-not-decide_event-clause-stopped
returns-then-not-decide_event-clause-stopped g c = λ zone stands.
    let was = c.loop.invariant.1 zone stands in
    let event = c.in-Some-Decides.event in
    let got : received c.next_signal.new.ring ≡ received c.loop.ring ++ Decides event ∷ [] = search rules in
    let kept_same : kept c.decide_event.new.decider ≡ kept c.loop.decider = search rules in
    let lists_same : lists c.decide_event.new.outbox ≡ lists c.put_round-moved.new.outbox = search rules in
    let log_same : c.decide_event.new.log ≡ c.loop.log = search rules in
    let now = stands_put _ _ _ _ _ _ _ _ _ was.2 _ _ c.put_round-moved.ensures.puts in
    let stops = stops_before _ _ _ _ _ _ _ _ _ now event _ (got ∙ ap (λ (ss : List Signal). ss ++ Decides event ∷ []) was.1) in
    subst (λ (log : g.row.L.Denot). HasStopped c.args.setup.config.now zone c.args.setup.share c.args.setup.queues.now false (received c.next_signal.new.ring) (waiting_at c.decide_event.new.outbox) c.put_round-moved.new.seats (λ lines. g.L.DeciderLog.tells c.args.log.now lines log) (kept c.decide_event.new.decider).log) (sym log_same)
    (subst (λ (k : Kept). HasStopped c.args.setup.config.now zone c.args.setup.share c.args.setup.queues.now false (received c.next_signal.new.ring) (waiting_at c.decide_event.new.outbox) c.put_round-moved.new.seats (λ lines. g.L.DeciderLog.tells c.args.log.now lines c.loop.log) k.log) (sym kept_same)
    (subst (λ (ls : List (List Notice)). HasStopped c.args.setup.config.now zone c.args.setup.share c.args.setup.queues.now false (received c.next_signal.new.ring) (λ l. slice_index_or ls l []) c.put_round-moved.new.seats (λ lines. g.L.DeciderLog.tells c.args.log.now lines c.loop.log) (kept c.loop.decider).log) (sym lists_same) stops))

pub returns-in-Some-Over-clause-all : goal.returns-in-Some-Over-clause-all
returns-in-Some-Over-clause-all g c = c.loop.invariant.4

pub returns-then-load-clause-all : goal.returns-then-load-clause-all
returns-then-load-clause-all g c = c.loop.invariant.4

pub returns-then-not-decide_event-clause-all : goal.returns-then-not-decide_event-clause-all
returns-then-not-decide_event-clause-all g c = λ none unfailed.
    let kept_same : kept c.decide_event.new.decider ≡ kept c.loop.decider = search rules in
    let log_same : c.decide_event.new.log ≡ c.loop.log = search rules in
    ap (λ (k : Kept). k.log) kept_same ∙ c.loop.invariant.4 none (ap g.L.DeciderLog.failed (sym log_same) ∙ unfailed)

pub loop-preserved : goal.loop-preserved
loop-preserved g c =
    let inv = c.loop.invariant in
    let event = c.in-Some-Decides.event in
    let same : SameConsumer c.args.ring.now c.next_signal.new.ring = search rules in
    let got : received c.next_signal.new.ring ≡ received c.loop.ring ++ Decides event ∷ [] = search rules in
    let decided : c.decide_event.result ≡ true = search rules in
    let long : length c.args.setup.queues.now ≡ length (lists c.put_round-moved.new.outbox) = search rules in (
      same,
      (λ zone stands.
          let was = inv.1 zone stands in
          let now = stands_put _ _ _ _ _ _ _ _ _ was.2 _ _ c.put_round-moved.ensures.puts in
          (event ∷ was.0, got ∙ ap (λ (ss : List Signal). ss ++ Decides event ∷ []) was.1, c.decide_event.ensures.decided decided zone _ _ _ was.0 c.args.log.now long now)),
      c.put_round-moved.ensures.seats ∙ inv.2,
      c.decide_event.ensures.lanes ∙ (c.put_round-moved.ensures.lanes ∙ inv.3),
      (λ _. c.decide_event.ensures.all decided),
    )
