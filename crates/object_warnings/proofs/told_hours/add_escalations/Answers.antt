use Rattle.std.proofs.Common.{arith, sym}
use Rattle.std.specs.List.{list_any}
use Rattle.object_warnings.specs.Hours.{has_hours_by}
use Rattle.object_warnings.proofs.ToldLemmas.{any-of-all, any-of-more, or-none}
use Rattle.object_warnings.proofs.told_hours.add_escalations.Goals as goal

pub loop-place-init : goal.loop-place-init
loop-place-init c holds = sym (or-none (list_any holds c.args.hours.now.items))

pub loop-place-preserved : goal.loop-place-preserved
loop-place-preserved c holds =
    any-of-more (has_hours_by c.args.config.now holds c.args.object.now) c.args.places.now c.loop-place.place-index _ _ _ _ c.loop-place-test.true
    (c.loop-place.invariant holds) (c.in_ok-add_escalation.ensures holds)

pub returns : goal.returns
returns c holds =
    any-of-all (has_hours_by c.args.config.now holds c.args.object.now) c.args.places.now c.loop-place.place-index _ _ (omega (arith, c.loop-place-test.false)) (c.loop-place.invariant holds)
