use Rattle.std.proofs.Common.{rules, sym, subst, ◌∙◌}
use Rattle.std.proofs.lemmas.List.{length-set}
use Rattle.decider.specs.claims.Outbox.{waiting_at}
use Rattle.decider_thread.specs.declared.seats.Seat.{Seat}
use Rattle.decider_thread.specs.Puts.{Puts}
use Rattle.decider_thread.proofs.PutLaws.{at_place, put_one}
use Rattle.decider_thread.proofs.seats.put_round.Goals as goal

pub put_front-requires-clause-puts : goal.put_front-requires-clause-puts
put_front-requires-clause-puts g c =
    let whole = c.requires.puts.0 in
    let lane = c.loop-lane.lane in
    let queue = at_place c.args.queues.now c.from-place.result c.index-queues-place.result (search rules) c.index-queues-place.is in
    let seat = at_place c.loop-lane.seats c.from-place.result c.index-seats-place.result (search rules) c.index-seats-place.is in
    let puts = subst (λ l. Puts c.index-queues-place.result c.args.decider (waiting_at c.loop-lane.outbox l) (whole l) c.index-seats-place.result.pass) c.from-place.ensures (c.loop-lane.invariant.0 whole c.requires.puts.1 c.from-place.result c.index-queues-place.result c.index-seats-place.result queue seat) in
    (whole lane, subst (λ (s : Seat). Puts c.index-queues-place.result c.args.decider (waiting_at c.loop-lane.outbox lane) (whole lane) s.pass) c.index-seats-place.is puts)

pub loop-lane-preserved : goal.loop-lane-preserved
loop-lane-preserved g c =
    let lane = c.loop-lane.lane in
    let place = c.from-place.result in
    let queue = at_place c.args.queues.now place c.index-queues-place.result (search rules) c.index-queues-place.is in
    let seat = at_place c.loop-lane.seats place c.index-seats-place.result (search rules) c.index-seats-place.is in
    let same = c.from-place.ensures in (
      (λ whole puts. put_one c.args.decider c.args.queues.now c.loop-lane.seats (waiting_at c.loop-lane.outbox) (waiting_at c.put_front.new.outbox) whole place
          c.index-queues-place.result c.index-seats-place.result c.put_front.new.seat queue seat
          (λ p. subst (λ l. Puts c.index-queues-place.result c.args.decider (waiting_at c.put_front.new.outbox l) (whole l) c.put_front.new.seat.pass) (sym same)
          (c.put_front.ensures.puts (whole lane) (subst (λ (s : Seat). Puts c.index-queues-place.result c.args.decider (waiting_at c.loop-lane.outbox lane) (whole lane) s.pass) c.index-seats-place.is
          (subst (λ l. Puts c.index-queues-place.result c.args.decider (waiting_at c.loop-lane.outbox l) (whole l) c.index-seats-place.result.pass) same p))))
          (λ k apart. c.put_front.ensures.others k (λ e. apart (e ∙ sym same)))
          (c.loop-lane.invariant.0 whole puts)),
      length-set c.loop-lane.seats place c.put_front.new.seat ∙ c.loop-lane.invariant.1,
      c.put_front.ensures.lanes ∙ c.loop-lane.invariant.2,
    )
