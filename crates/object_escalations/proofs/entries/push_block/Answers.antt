use Rattle.std.proofs.Common.{get_or, length, refl}
use Rattle.std.proofs.lemmas.Option.{slice_get_read}
use Rattle.object_escalations.proofs.GivenLemmas.{taken-all, taken-more, taken-none}
use Rattle.object_escalations.proofs.entries.push_block.Goals as goal

pub loop-number-init : goal.loop-number-init
loop-number-init c = taken-none c.args.given.now c.args.objects.now c.args.escalations.now.items

pub loop-number-preserved : goal.loop-number-preserved
loop-number-preserved c =
    taken-more c.args.given.now c.args.objects.now c.args.numbers.now c.loop-number.number-index 0 c.index-objects-number.result c.in_ok-escalation.escalation
    c.args.escalations.now.items c.loop-number.escalations.items c.push.new.self.items c.loop-number-test.true
    (slice_get_read c.args.objects.now (length c.args.objects.now) (get_or c.args.numbers.now c.loop-number.number-index 0) c.index-objects-number.result refl
    (c.requires.within c.loop-number.number-index 0 c.loop-number-test.true) c.index-objects-number.is)
    c.in_ok-escalation.ensures c.loop-number.invariant c.in_ok-push.ensures.items

pub returns : goal.returns
returns c = taken-all c.args.given.now c.args.objects.now c.args.numbers.now c.loop-number.number-index c.args.escalations.now.items c.loop-number.escalations.items c.loop-number-test.false c.loop-number.invariant
