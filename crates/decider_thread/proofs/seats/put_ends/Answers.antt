use Rattle.std.proofs.Common.{rules, subst, ◌∙◌, []}
use Rattle.std.proofs.lemmas.List.{length-set}
use Rattle.std.proofs.lemmas.Option.{slice_get_within}
use Rattle.decider_thread.specs.declared.seats.Seat.{Seat}
use Rattle.decider_thread.specs.Puts.{Puts}
use Rattle.decider_thread.proofs.PutLaws.{at_place, end_one}
use Rattle.decider_thread.proofs.seats.put_ends.Goals as goal

pub loop-place-preserved : goal.loop-place-preserved
loop-place-preserved g c =
    let place = c.loop-place.place in
    let queue = at_place c.args.queues.now place c.index-queues-place.result (search rules) c.index-queues-place.is in
    let seat = at_place c.loop-place.seats place c.index-seats-place.result (search rules) c.index-seats-place.is in (
      (λ whole puts. end_one c.args.decider c.args.queues.now c.loop-place.seats whole place c.index-queues-place.result c.index-seats-place.result c.put_end.new.seat queue seat
          (λ p. c.put_end.ensures (whole place) (subst (λ (s : Seat). Puts c.index-queues-place.result c.args.decider [] (whole place) s.pass) c.index-seats-place.is p))
          (c.loop-place.invariant.0 whole puts)),
      length-set c.loop-place.seats place c.put_end.new.seat ∙ c.loop-place.invariant.1,
    )

pub returns-clause-ended : goal.returns-clause-ended
returns-clause-ended g c = λ whole puts k q s queue seat.
    let within = slice_get_within c.loop-place.seats k s seat in
    (c.loop-place.invariant.0 whole puts).0 k (search rules) q s queue seat
