use Rattle.object_warnings.specs.Overridden.{is_other_at}
use Rattle.object_warnings.proofs.LineLemmas.{push-more}
use Rattle.object_warnings.proofs.overridden.push_others.Goals as goal

pub loop-number-preserved : goal.loop-number-preserved
loop-number-preserved c =
    push-more (is_other_at c.args.blocks.now) c.loop-number.number c.args.place c.args.found.now.items c.loop-number.found.items
    c.push_line.new.found.items c.is_other_at.result c.loop-number.invariant c.in_ok-push_line.ensures c.is_other_at.ensures
