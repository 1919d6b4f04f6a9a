use Rattle.object_warnings.specs.Directives.{passes_at}
use Rattle.object_warnings.proofs.LineLemmas.{blocks-more}
use Rattle.object_warnings.proofs.directives.lines_where.Goals as goal

pub loop-place-preserved : goal.loop-place-preserved
loop-place-preserved c =
    blocks-more (passes_at c.args.test c.args.blocks.now) c.args.blocks.now c.loop-place.place c.loop-place.found.items c.push_lines.new.found.items
    c.loop-place.invariant c.in_ok-push_lines.ensures
