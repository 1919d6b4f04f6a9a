use Rattle.std.proofs.Common.{rules, arith, ◌≡◌, ◌≤◌, ◌<◌, ◌++◌, ◌∷◌, [], Some, length, vec_capacity, slice_get, subst, sym}
use Rattle.std.proofs.lemmas.List.{nil_from_length}
use Rattle.std.specs.Vec.Iter.{into_iter_items}
use Rattle.engine_threads.specs.ListLaws.{all_taken, both_longer, next_rest, triples_grow}
use Rattle.engine_threads.proofs.ListLaws.{room_for}
use Rattle.engine_threads.proofs.joins.join_all.Goals as goal

pub loop-handle-preserved : goal.loop-handle-preserved
loop-handle-preserved g c =
    let inv = c.loop-handle.invariant in
    let end = c.join_one-end.result.0 in
    let other = c.join_one-end.result.1 in
    let room : length c.loop-handle.ends.items < vec_capacity c.loop-handle.ends = room_for c.loop-handle.yielded _ _ c.args.handles.items c.in-Some.handle _ _ inv.0 inv.3 c.in-Some.ensures.steps.0 inv.4 in
    let place : length c.loop-handle.others.items < vec_capacity c.loop-handle.others = room_for c.loop-handle.yielded _ _ c.args.handles.items c.in-Some.handle _ _ inv.1 inv.3 c.in-Some.ensures.steps.0 inv.5 in
    let items : c.push-room.new.self.items ≡ c.loop-handle.ends.items ++ end ∷ [] = search rules in
    let others : c.push-place.new.self.items ≡ c.loop-handle.others.items ++ other ∷ [] = search rules in
    let more : vec_capacity c.loop-handle.ends ≤ vec_capacity c.push-room.new.self = search rules in
    let wider : vec_capacity c.loop-handle.others ≤ vec_capacity c.push-place.new.self = search rules in (
      both_longer c.loop-handle.yielded c.loop-handle.ends.items c.push-room.new.self.items c.in-Some.handle end items inv.0,
      both_longer c.loop-handle.yielded c.loop-handle.others.items c.push-place.new.self.items c.in-Some.handle other others inv.1,
      rw (items, others) (triples_grow (λ i h t u. g.P.Promise.kept_by h.promise (Some (t, u))) c.loop-handle.yielded c.loop-handle.ends.items c.loop-handle.others.items c.in-Some.handle end other inv.0 inv.1 inv.2 c.join_one-end.ensures),
      next_rest c.loop-handle.yielded c.in-Some.handle (into_iter_items c.loop-handle.handle-iterator) (into_iter_items c.next.new.self) c.args.handles.items c.in-Some.ensures.steps.0 inv.3,
      omega (arith, more, inv.4),
      omega (arith, wider, inv.5),
    )

pub returns-clause-each : goal.returns-clause-each
returns-clause-each g c =
    let rest = c.loop-handle.handle-iterator.rest in
    let none_left : rest.items ≡ [] = nil_from_length rest.items (search rules) in
    let whole = all_taken c.loop-handle.yielded rest.items c.args.handles.items none_left c.loop-handle.invariant.3 in
    λ i h t u at_h at_t at_u. c.loop-handle.invariant.2 i h t u (subst (λ l. slice_get l i ≡ Some h) (sym whole) at_h) at_t at_u
