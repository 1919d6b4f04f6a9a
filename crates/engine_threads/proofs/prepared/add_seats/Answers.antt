use Rattle.std.proofs.Common.{rules, ◌≡◌, ◌<◌, ◌+◌, ◌++◌, ◌∷◌, [], length, length-append, slice_get, Some, refl, sym, subst, ap, ◌∙◌, arith}
use Rattle.std.proofs.lemmas.List.{length-set, nil_from_length}
use Rattle.std.proofs.lemmas.Option.{slice_get_within}
use Rattle.std.specs.Vec.Iter.{into_iter_items}
use Rattle.decider_thread.specs.declared.seats.Seat.{Seat}
use Rattle.engine_threads.specs.declared.starts.DeciderWork.{DeciderWork}
use Rattle.engine_threads.specs.ListLaws.{all_taken, next_rest}
use Rattle.lemmas.proofs.Lists.{slice_get_read}
use Rattle.engine_threads.proofs.ListLaws.{next_at}
use Rattle.engine_threads.proofs.WorkLaws.{left_one, longer_one}
use Rattle.engine_threads.proofs.prepared.add_seats.Goals as goal

pub loop-pass-preserved : goal.loop-pass-preserved
loop-pass-preserved c =
    let inv = c.loop-pass.invariant in
    let place = c.loop-pass.place in
    let w = c.index_mut.result.now in
    let v : DeciderWork = record { ring = w.ring; seats = c.push.new.self } in
    let seat : Seat = record { lane = c.args.lane; pass = c.in-Some.pass } in
    let pass = subst (λ k. slice_get c.args.passes.items k ≡ Some c.in-Some.pass) (sym inv.0) (next_at c.loop-pass.yielded c.in-Some.pass (into_iter_items c.loop-pass.pass-iterator) (into_iter_items c.next.new.self) c.args.passes.items c.in-Some.ensures.steps.0 inv.1) in
    let below : place < length c.args.passes.items = slice_get_within c.args.passes.items place c.in-Some.pass pass in
    let long : length c.args.passes.items ≡ length c.loop-pass.deciders.items = c.requires.count ∙ sym inv.2 in
    let at = slice_get_read c.loop-pass.deciders.items place w (subst (λ n. place < n) long below) (search rules) in
    let seats : c.push.new.self.items ≡ w.seats.items ++ seat ∷ [] = search rules in (
      ap (λ n. n + 1) inv.0 ∙ sym (length-append c.loop-pass.yielded (c.in-Some.pass ∷ [])),
      next_rest c.loop-pass.yielded c.in-Some.pass (into_iter_items c.loop-pass.pass-iterator) (into_iter_items c.next.new.self) c.args.passes.items c.in-Some.ensures.steps.0 inv.1,
      length-set c.loop-pass.deciders.items place v ∙ inv.2,
      longer_one c.args.queue.now c.args.deciders.now.items c.loop-pass.deciders.items place w v at
          (record { ring = refl; seat = seat; seats = seats; is = c.requires.passes place c.in-Some.pass pass }) (inv.4 place w (omega arith) at) inv.3,
      left_one c.args.queue.now c.args.deciders.now.items c.loop-pass.deciders.items place w v at inv.4,
    )

pub returns-clause-longer : goal.returns-clause-longer
returns-clause-longer c =
    let inv = c.loop-pass.invariant in
    let rest = c.loop-pass.pass-iterator.rest in
    let none_left : rest.items ≡ [] = nil_from_length rest.items (search rules) in
    let whole = all_taken c.loop-pass.yielded rest.items c.args.passes.items none_left inv.1 in
    λ d w v at_w at_v.
    let below : d < length c.args.deciders.now.items = slice_get_within c.args.deciders.now.items d w at_w in
    let long : length c.args.deciders.now.items ≡ c.loop-pass.place = sym (inv.0 ∙ ap length whole ∙ c.requires.count) in
    inv.3 d w v (subst (λ n. d < n) long below) at_w at_v
