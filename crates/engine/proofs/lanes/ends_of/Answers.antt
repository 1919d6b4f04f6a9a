use Rattle.std.proofs.Common.{rules, arith, ◌≡◌, ◌≤◌, ◌<◌, ◌∙◌, ◌++◌, ◌∷◌, [], ℕ, get_or, length, slice_get, Some, vec_capacity, subst, sym}
use Rattle.std.proofs.lemmas.List.{nil_from_length}
use Rattle.std.proofs.lemmas.Option.{same_Some, slice_get-get_or}
use Rattle.std.specs.Vec.Iter.{into_iter_items}
use Rattle.engine.specs.Lanes.{IsEndOf}
use Rattle.engine_threads.specs.ListLaws.{all_taken, both_longer, next_rest, pairs_grow}
use Rattle.engine.proofs.PostLaws.{room_for}
use Rattle.engine.proofs.lanes.ends_of.Goals as goal

pub loop-lane-preserved : goal.loop-lane-preserved
loop-lane-preserved c =
    let inv = c.loop-lane.invariant in
    let room : length c.loop-lane.ends.items < vec_capacity c.loop-lane.ends = room_for c.loop-lane.yielded _ _ c.args.served.items c.in-Some.lane _ _ inv.0 inv.2 c.in-Some.ensures.steps.0 inv.3 in
    let below : length c.loop-lane.yielded < length c.args.counts.now = room_for c.loop-lane.yielded _ _ c.args.served.items c.in-Some.lane _ _ (search rules) inv.2 c.in-Some.ensures.steps.0 c.requires.counts in
    let pushed : c.push-room.new.self.items ≡ c.loop-lane.ends.items ++ c.of_served.result ∷ [] = search rules in
    let more : vec_capacity c.loop-lane.ends ≤ vec_capacity c.push-room.new.self = search rules in
    let len : length c.loop-lane.yielded ≡ c.len.result = search rules in
    let found = slice_get-get_or c.args.counts.now c.len.result 0 (subst (λ k. k < length c.args.counts.now) len below) in
    let own : IsEndOf (length c.loop-lane.ends.items) (get_or c.args.counts.now c.len.result 0) c.in-Some.lane c.of_served.result = search rules in
    let end : (n : ℕ) → slice_get c.args.counts.now (length c.loop-lane.yielded) ≡ Some n → IsEndOf (length c.loop-lane.yielded) n c.in-Some.lane c.of_served.result = λ n at.
    let same = same_Some (get_or c.args.counts.now c.len.result 0) n (sym found ∙ subst (λ k. slice_get c.args.counts.now k ≡ Some n) len at) in
    subst (λ k. IsEndOf k n c.in-Some.lane c.of_served.result) inv.0 (subst (λ k. IsEndOf (length c.loop-lane.ends.items) k c.in-Some.lane c.of_served.result) same own) in (
      both_longer c.loop-lane.yielded c.loop-lane.ends.items c.push-room.new.self.items c.in-Some.lane c.of_served.result pushed inv.0,
      rw pushed (pairs_grow (λ k s e. (n : ℕ) → slice_get c.args.counts.now k ≡ Some n → IsEndOf k n s e) c.loop-lane.yielded c.loop-lane.ends.items c.in-Some.lane c.of_served.result inv.0 inv.1 end),
      next_rest c.loop-lane.yielded c.in-Some.lane (into_iter_items c.loop-lane.lane-iterator) (into_iter_items c.next.new.self) c.args.served.items c.in-Some.ensures.steps.0 inv.2,
      omega (arith, more, inv.3),
    )

pub loop-lane-preserved-in-Some : goal.loop-lane-preserved-in-Some
loop-lane-preserved-in-Some c =
    let inv = c.loop-lane.invariant in
    let room : length c.loop-lane.ends.items < vec_capacity c.loop-lane.ends = room_for c.loop-lane.yielded _ _ c.args.served.items c.in-Some.lane _ _ inv.0 inv.2 c.in-Some.ensures.steps.0 inv.3 in
    absurd (search rules)

pub returns-clause-each : goal.returns-clause-each
returns-clause-each c =
    let inv = c.loop-lane.invariant in
    let rest = c.loop-lane.lane-iterator.rest in
    let none_left : rest.items ≡ [] = nil_from_length rest.items (search rules) in
    let whole = all_taken c.loop-lane.yielded rest.items c.args.served.items none_left inv.2 in
    λ l n s lane at_n at_s at_lane. inv.1 l s lane (subst (λ ss. slice_get ss l ≡ Some s) (sym whole) at_s) at_lane n at_n
