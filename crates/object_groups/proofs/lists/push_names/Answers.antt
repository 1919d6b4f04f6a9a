use Rattle.object_groups.specs.ListEdges.{between}
use Rattle.lemmas.proofs.Results.{on_err_always}
use Rattle.object_groups.proofs.ListLemmas.{begins-on}
use Rattle.object_groups.proofs.NumberLemmas.{edges-more}
use Rattle.object_groups.proofs.lists.push_names.Goals as goal

pub loop-entry-preserved : goal.loop-entry-preserved
loop-entry-preserved c =
    edges-more (between c.args.direction c.args.node) c.args.first c.args.names.now c.args.entries.now c.loop-entry.entry-index _ c.args.edges.now.items c.loop-entry.edges.items _ c.find.result
    c.loop-entry-test.true c.loop-entry.invariant c.find.ensures.number c.in_ok-push_found.ensures.edges

pub returns-in_err-push_found-clause-left : goal.returns-in_err-push_found-clause-left
returns-in_err-push_found-clause-left c =
    on_err_always c.from_residual.result (begins-on c.args.edges.now.items c.loop-entry.edges.items c.push_found.new.edges.items _ c.loop-entry.invariant c.in_err-push_found.ensures.left)
