use Rattle.std.proofs.Common.{rules, ◌≡◌, ◌++◌, ◌∷◌, [], length, slice_get, Some, sym, subst, ◌∙◌}
use Rattle.std.proofs.lemmas.List.{nil_from_length}
use Rattle.std.specs.Vec.Iter.{into_iter_items}
use Rattle.channel_queue.specs.declared.LaneQueue.{LaneQueue}
use Rattle.channel_queue.specs.Passes.{IsWorker}
use Rattle.engine_threads.specs.ListLaws.{all_taken, both_longer, each_grows, next_rest, pairs_grow}
use Rattle.engine_threads.proofs.ListLaws.{next_at}
use Rattle.engine_threads.specs.Works.{AreLonger}
use Rattle.engine_threads.proofs.WorkLaws.{rings_longer, works_longer}
use Rattle.engine_threads.proofs.prepared.prepare_all.Goals as goal

pub lane_work-requires : goal.lane_work-requires
lane_work-requires g c = (
  c.type_bounds.send-C,
  c.requires.few (length c.loop-of_lane.yielded) c.in-Some.of_lane
      (next_at c.loop-of_lane.yielded c.in-Some.of_lane (into_iter_items c.loop-of_lane.of_lane-iterator) (into_iter_items c.next.new.self) c.args.given.items c.in-Some.ensures.steps.0 c.loop-of_lane.invariant.2),
)

pub loop-of_lane-preserved : goal.loop-of_lane-preserved
loop-of_lane-preserved g c =
    let inv = c.loop-of_lane.invariant in
    let q = c.in_ok-queue.queue in
    let queues : c.push.new.self.items ≡ c.loop-of_lane.queues.items ++ q ∷ [] = search rules in
    let channels : c.lane_work.result.channels ≡ c.in-Some.of_lane = search rules in
    let number : c.lane_work.result.lane.0 ≡ length c.loop-of_lane.works.items = search rules in
    let works : c.push-in-loop-of_lane.new.self.items ≡ c.loop-of_lane.works.items ++ c.lane_work.result ∷ [] = search rules in
    let more : AreLonger q c.loop-of_lane.ends.items c.add_seats.new.deciders.items = search rules in
    let count : q.deciders ≡ c.args.deciders = search rules in
    let worker : IsWorker q [] [] c.lane_work.result.pass = search rules in
    let ends = c.add_seats.ensures.count in
    let rings = rings_longer q c.loop-of_lane.ends.items c.add_seats.new.deciders.items c.in_ok-senders.senders.items ends more inv.7 in
    let seats = works_longer c.loop-of_lane.queues.items q c.loop-of_lane.ends.items c.add_seats.new.deciders.items ends more inv.8 in
    let same = inv.1 ∙ sym inv.0 in (
      both_longer c.loop-of_lane.yielded c.loop-of_lane.queues.items c.push.new.self.items c.in-Some.of_lane q queues inv.0,
      both_longer c.loop-of_lane.yielded c.loop-of_lane.works.items c.push-in-loop-of_lane.new.self.items c.in-Some.of_lane _ works inv.1,
      next_rest c.loop-of_lane.yielded c.in-Some.of_lane (into_iter_items c.loop-of_lane.of_lane-iterator) (into_iter_items c.next.new.self) c.args.given.items c.in-Some.ensures.steps.0 inv.2,
      rw works (pairs_grow (λ k s w. (w.channels ≡ s) × (w.lane.0 ≡ k)) c.loop-of_lane.yielded c.loop-of_lane.works.items c.in-Some.of_lane _ inv.1 inv.3 (channels, number ∙ inv.1)),
      rw queues (each_grows (λ (r : LaneQueue). r.deciders ≡ c.args.deciders) c.loop-of_lane.queues.items q inv.4 count),
      rw (queues, works) (pairs_grow (λ k r w. IsWorker r [] [] w.pass) c.loop-of_lane.queues.items c.loop-of_lane.works.items q _ same inv.5 worker),
      ends ∙ inv.6,
      rings,
      rw queues seats,
    )

pub returns-clause-given : goal.returns-clause-given
returns-clause-given g c =
    let inv = c.loop-of_lane.invariant in
    let rest = c.loop-of_lane.of_lane-iterator.rest in
    let none_left : rest.items ≡ [] = nil_from_length rest.items (search rules) in
    let whole = all_taken c.loop-of_lane.yielded rest.items c.args.given.items none_left inv.2 in
    λ l w s at_s at_w. inv.3 l s w (subst (λ ss. slice_get ss l ≡ Some s) (sym whole) at_s) at_w
