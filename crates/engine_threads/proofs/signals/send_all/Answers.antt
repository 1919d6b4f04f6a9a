use Rattle.std.proofs.Common.{rules, ◌<◌, ◌≤◌, length, ◌∙◌, refl}
use Rattle.std.proofs.lemmas.List.{length-set}
use Rattle.lemmas.proofs.Lists.{slice_get_read}
use Rattle.engine_threads.proofs.SentLaws.{same_after, sent_after, sent_none, sent_one}
use Rattle.engine_threads.proofs.signals.send_all.Goals as goal

pub loop-place-init : goal.loop-place-init
loop-place-init g c = (sent_none c.args.signal c.args.rings.now.items, refl)

pub loop-place-preserved : goal.loop-place-preserved
loop-place-preserved g c =
    let inv = c.loop-place.invariant in
    let place = c.loop-place.place in
    let below : place < length c.loop-place.rings.items = search rules in
    let at = slice_get_read c.loop-place.rings.items place c.index_mut.result.now below (search rules) in (
      sent_one c.args.signal place c.args.rings.now.items c.loop-place.rings.items c.index_mut.result.now c.send.new.ring at c.send.ensures.ring c.send.ensures.sent inv.0,
      length-set c.loop-place.rings.items place c.send.new.ring ∙ inv.1,
    )

pub returns-clause-same : goal.returns-clause-same
returns-clause-same g c = same_after c.args.signal c.loop-place.place c.args.rings.now.items c.loop-place.rings.items c.loop-place.invariant.0

pub returns-clause-sent : goal.returns-clause-sent
returns-clause-sent g c = λ signals have.
    let whole : length c.loop-place.rings.items ≤ c.loop-place.place = search rules in
    sent_after c.args.signal c.loop-place.place c.args.rings.now.items c.loop-place.rings.items signals c.loop-place.invariant.1 whole c.loop-place.invariant.0 have
