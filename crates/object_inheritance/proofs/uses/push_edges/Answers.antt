use Rattle.object_inheritance.specs.claims.Templates.{template_place}
use Rattle.object_inheritance.proofs.UseLemmas.{edges-more}
use Rattle.object_inheritance.proofs.uses.push_edges.Goals as goal

pub loop-name-preserved : goal.loop-name-preserved
loop-name-preserved c =
    edges-more c.args.place (template_place c.args.names.now c.args.block.now.kind) c.as_slice-name-items.result.now c.loop-name.name-index _
    c.args.edges.now.items c.loop-name.edges.items _ c.find.result c.loop-name-test.true c.loop-name.invariant c.find.ensures.place c.in_ok-push_edge.ensures
