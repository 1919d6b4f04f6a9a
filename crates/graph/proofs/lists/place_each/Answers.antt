use Rattle.std.proofs.Common.{rules, ◌+◌, ◌<◌, length}
use Rattle.graph.proofs.PushedLemmas.{AreInPlace-more, AreInPlace-room}
use Rattle.graph.proofs.lists.place_each.Goals as goal

pub bounds-values-place : goal.bounds-values-place
bounds-values-place g c =
    let within : c.one-item.result.number + 1 < length c.loop-one.places = search rules in
    AreInPlace-room c.args.pushed.now c.loop-one.one-index c.one-item.result c.loop-one.places c.loop-one.values c.loop-one-test.true c.one-item.is within c.loop-one.invariant

pub loop-one-preserved : goal.loop-one-preserved
loop-one-preserved g c =
    let within : c.one-item.result.number + 1 < length c.loop-one.places = search rules in
    AreInPlace-more c.args.pushed.now c.loop-one.one-index c.one-item.result c.loop-one.places c.loop-one.values c.loop-one-test.true c.one-item.is within c.loop-one.invariant
