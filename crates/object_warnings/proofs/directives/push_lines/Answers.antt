use Rattle.object_warnings.specs.Directives.{passes_at}
use Rattle.object_warnings.proofs.LineLemmas.{push-more}
use Rattle.object_warnings.proofs.directives.push_lines.Goals as goal

pub loop-number-preserved : goal.loop-number-preserved
loop-number-preserved c =
    push-more (passes_at c.args.test c.args.blocks.now) c.loop-number.number c.args.place c.args.found.now.items c.loop-number.found.items
    c.push_line.new.found.items c.passes_at.result c.loop-number.invariant c.in_ok-push_line.ensures c.passes_at.ensures
