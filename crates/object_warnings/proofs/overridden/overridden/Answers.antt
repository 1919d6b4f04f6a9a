use Rattle.object_warnings.specs.Overridden.{is_other_at}
use Rattle.object_warnings.proofs.LineLemmas.{blocks-more}
use Rattle.object_warnings.proofs.overridden.overridden.Goals as goal

pub loop-place-preserved : goal.loop-place-preserved
loop-place-preserved c =
    blocks-more (is_other_at c.args.blocks.now) c.args.blocks.now c.loop-place.place c.loop-place.found.items c.push_others.new.found.items
    c.loop-place.invariant c.in_ok-push_others.ensures
