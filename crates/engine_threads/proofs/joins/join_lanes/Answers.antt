use Rattle.std.proofs.Common.{rules, arith, ◌≡◌, ◌≤◌, ◌<◌, ◌++◌, ◌∷◌, [], Some, length, slice_get, sym, subst, vec_capacity}
use Rattle.std.proofs.lemmas.List.{nil_from_length}
use Rattle.std.specs.Vec.Iter.{into_iter_items}
use Rattle.engine_threads.specs.Lanes.{HaveTaken, IsServed}
use Rattle.engine_threads.specs.ListLaws.{all_taken, both_longer, next_rest, pairs_grow, triples_grow}
use Rattle.engine_threads.proofs.ListLaws.{room_for}
use Rattle.engine_threads.proofs.joins.join_lanes.Goals as goal

pub loop-handle-preserved : goal.loop-handle-preserved
loop-handle-preserved g c =
    let inv = c.loop-handle.invariant in
    let lane = c.join_one-lane.result.0 in
    let of_lane = c.join_one-lane.result.1 in
    let room : length c.loop-handle.served.items < vec_capacity c.loop-handle.served = room_for c.loop-handle.yielded _ _ c.args.handles.items c.in-Some.handle _ _ inv.0 inv.4 c.in-Some.ensures.steps.0 inv.5 in
    let place : length c.loop-handle.channels.items < vec_capacity c.loop-handle.channels = room_for c.loop-handle.yielded _ _ c.args.handles.items c.in-Some.handle _ _ inv.1 inv.4 c.in-Some.ensures.steps.0 inv.6 in
    let items : c.push-room.new.self.items ≡ c.loop-handle.served.items ++ lane ∷ [] = search rules in
    let channels : c.push-place.new.self.items ≡ c.loop-handle.channels.items ++ of_lane ∷ [] = search rules in
    let more : vec_capacity c.loop-handle.served ≤ vec_capacity c.push-room.new.self = search rules in
    let wider : vec_capacity c.loop-handle.channels ≤ vec_capacity c.push-place.new.self = search rules in (
      both_longer c.loop-handle.yielded c.loop-handle.served.items c.push-room.new.self.items c.in-Some.handle lane items inv.0,
      both_longer c.loop-handle.yielded c.loop-handle.channels.items c.push-place.new.self.items c.in-Some.handle of_lane channels inv.1,
      rw items (pairs_grow (λ i h s. IsServed h.promise.queue.now h.promise.channels s) c.loop-handle.yielded c.loop-handle.served.items c.in-Some.handle lane inv.0 inv.2 c.join_one-lane.ensures.0),
      rw (items, channels) (triples_grow (λ i h s b. HaveTaken g.C.Channel.account g.C.Channel.offered h.promise.tries h.promise.config.now s h.promise.given.value.items b.items) c.loop-handle.yielded c.loop-handle.served.items c.loop-handle.channels.items c.in-Some.handle lane of_lane inv.0 inv.1 inv.3 c.join_one-lane.ensures.1),
      next_rest c.loop-handle.yielded c.in-Some.handle (into_iter_items c.loop-handle.handle-iterator) (into_iter_items c.next.new.self) c.args.handles.items c.in-Some.ensures.steps.0 inv.4,
      omega (arith, more, inv.5),
      omega (arith, wider, inv.6),
    )

pub returns-clause-each : goal.returns-clause-each
returns-clause-each g c =
    let rest = c.loop-handle.handle-iterator.rest in
    let none_left : rest.items ≡ [] = nil_from_length rest.items (search rules) in
    let whole = all_taken c.loop-handle.yielded rest.items c.args.handles.items none_left c.loop-handle.invariant.4 in
    λ i h s at_h at_s. c.loop-handle.invariant.2 i h s (subst (λ l. slice_get l i ≡ Some h) (sym whole) at_h) at_s

pub returns-clause-channels : goal.returns-clause-channels
returns-clause-channels g c =
    let rest = c.loop-handle.handle-iterator.rest in
    let none_left : rest.items ≡ [] = nil_from_length rest.items (search rules) in
    let whole = all_taken c.loop-handle.yielded rest.items c.args.handles.items none_left c.loop-handle.invariant.4 in
    λ i h s b at_h at_s at_b. c.loop-handle.invariant.3 i h s b (subst (λ l. slice_get l i ≡ Some h) (sym whole) at_h) at_s at_b
