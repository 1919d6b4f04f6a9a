use Rattle.std.proofs.Common.{rules, ◌≡◌, ◌<◌, ◌∷◌, [], length, length-append, slice_get, Some, refl, sym, subst, ap, ◌∙◌, ◌+◌}
use Rattle.std.proofs.lemmas.List.{length-set, nil_from_length}
use Rattle.std.proofs.lemmas.Option.{slice_get_within}
use Rattle.std.specs.Vec.Iter.{into_iter_items}
use Rattle.channel_queue.specs.Rule.{picked_of, picked_seen}
use Rattle.delivery_worker.specs.declared.worker.Served.{Served}
use Rattle.engine_threads.proofs.JoinLaws.{joined_kept, joined_picked, joined_workers, own_decider}
use Rattle.engine_threads.specs.ListLaws.{all_taken, next_rest}
use Rattle.lemmas.proofs.Lists.{slice_get_read}
use Rattle.engine_threads.proofs.ListLaws.{next_at}
use Rattle.engine_threads.proofs.ends.join_seats.Goals as goal

pub absorb-requires-clause-worker : goal.absorb-requires-clause-worker
absorb-requires-clause-worker c =
    let place = c.loop-seat.place in
    let inv = c.loop-seat.invariant in
    let seat = subst (λ k. slice_get c.args.seats.items k ≡ Some c.in-Some.seat) (sym inv.0) (next_at c.loop-seat.yielded c.in-Some.seat (into_iter_items c.loop-seat.seat-iterator) (into_iter_items c.next.new.self) c.args.seats.items c.in-Some.ensures.steps.0 inv.1) in
    let below : place < length c.args.queues.now = subst (λ n. place < n) c.requires.seats (slice_get_within c.args.seats.items place c.in-Some.seat seat) in
    let queue = slice_get_read c.args.queues.now place c.index-queues-place.result below c.index-queues-place.is in
    let long : length c.args.queues.now ≡ length c.loop-seat.served.items = sym (inv.5 ∙ c.requires.served) in
    let at = slice_get_read c.loop-seat.served.items place c.index_mut.result.now (subst (λ n. place < n) long below) (search rules) in
    c.loop-seat.invariant.2 place c.index-queues-place.result c.index_mut.result.now queue at

pub absorb-requires-clause-decider : goal.absorb-requires-clause-decider
absorb-requires-clause-decider c =
    let place = c.loop-seat.place in
    let inv = c.loop-seat.invariant in
    let seat = subst (λ k. slice_get c.args.seats.items k ≡ Some c.in-Some.seat) (sym inv.0) (next_at c.loop-seat.yielded c.in-Some.seat (into_iter_items c.loop-seat.seat-iterator) (into_iter_items c.next.new.self) c.args.seats.items c.in-Some.ensures.steps.0 inv.1) in
    let below = slice_get_within c.args.seats.items place c.in-Some.seat seat in
    let queue = slice_get_read c.args.queues.now place c.index-queues-place.result (subst (λ n. place < n) c.requires.seats below) c.index-queues-place.is in
    own_decider c.index-queues-place.result c.requires.ended.0 _ c.in-Some.seat.pass (c.requires.ended.2 place c.index-queues-place.result c.in-Some.seat queue seat)

pub loop-seat-preserved : goal.loop-seat-preserved
loop-seat-preserved c =
    let place = c.loop-seat.place in
    let inv = c.loop-seat.invariant in
    let q = c.index-queues-place.result in
    let s = c.index_mut.result.now in
    let s' : Served = record { pass = c.absorb.new.worker; held = s.held; why = s.why } in
    let seat = subst (λ k. slice_get c.args.seats.items k ≡ Some c.in-Some.seat) (sym inv.0) (next_at c.loop-seat.yielded c.in-Some.seat (into_iter_items c.loop-seat.seat-iterator) (into_iter_items c.next.new.self) c.args.seats.items c.in-Some.ensures.steps.0 inv.1) in
    let below : place < length c.args.queues.now = subst (λ n. place < n) c.requires.seats (slice_get_within c.args.seats.items place c.in-Some.seat seat) in
    let queue = slice_get_read c.args.queues.now place q below c.index-queues-place.is in
    let long : length c.args.queues.now ≡ length c.loop-seat.served.items = sym (inv.5 ∙ c.requires.served) in
    let at = slice_get_read c.loop-seat.served.items place s (subst (λ n. place < n) long below) (search rules) in
    let joined = c.absorb.ensures.joined in
    let picked : picked_of c.absorb.new.worker ≡ picked_of s.pass = ap picked_seen joined.1 in (
      ap (λ n. n + 1) inv.0 ∙ sym (length-append c.loop-seat.yielded (c.in-Some.seat ∷ [])),
      next_rest c.loop-seat.yielded c.in-Some.seat (into_iter_items c.loop-seat.seat-iterator) (into_iter_items c.next.new.self) c.args.seats.items c.in-Some.ensures.steps.0 inv.1,
      joined_workers c.args.queues.now c.loop-seat.served.items place q s s' queue at _ _ joined inv.2,
      joined_kept c.args.queues.now c.loop-seat.served.items place q s s' queue at c.args.served.now.items (record { held = refl; why = refl; picked = picked }) inv.3,
      (λ d put ended. joined_picked c.args.queues.now c.loop-seat.served.items place q s s' queue at c.args.served.now.items c.in-Some.seat.pass d put inv.3
          (ended place q c.in-Some.seat queue seat) c.absorb.ensures.read c.absorb.ensures.numbers (inv.4 d put ended)),
      length-set c.loop-seat.served.items place s' ∙ inv.5,
    )

pub returns-clause-picked : goal.returns-clause-picked
returns-clause-picked c =
    let inv = c.loop-seat.invariant in
    let rest = c.loop-seat.seat-iterator.rest in
    let none_left : rest.items ≡ [] = nil_from_length rest.items (search rules) in
    let whole = all_taken c.loop-seat.yielded rest.items c.args.seats.items none_left inv.1 in
    λ d put ended l q s at_queue at_served.
    let below : l < length c.args.queues.now = slice_get_within c.args.queues.now l q at_queue in
    let long : length c.args.queues.now ≡ c.loop-seat.place = sym (inv.0 ∙ ap length whole ∙ c.requires.seats) in
    inv.4 d put ended l q s (subst (λ n. l < n) long below) at_queue at_served
