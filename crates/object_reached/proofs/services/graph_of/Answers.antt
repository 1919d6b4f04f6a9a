use Rattle.std.proofs.Common.{◌+◌, ◌≤◌, ◌∙◌, arith, length}
use Rattle.object_reached.proofs.ServiceLemmas.{by-host, edges-within}
use Rattle.object_reached.proofs.services.graph_of.Goals as goal

pub new-requires : goal.new-requires
new-requires c =
    let few : c.args.hosts + length c.args.pairs.now ≤ c.saturating_add-nodes.result = omega (arith, c.saturating_add-nodes.ensures, c.if-nodes.false) in
    edges-within c.args.pairs.now c.args.hosts c.saturating_add-nodes.result c.as_slice.result.now c.requires.hosts few (c.as_slice.ensures.value ∙ c.in_ok-edges.ensures)

pub returns-clause-by_host : goal.returns-clause-by_host
returns-clause-by_host c =
    let few : c.args.hosts + length c.args.pairs.now ≤ c.saturating_add-nodes.result = omega (arith, c.saturating_add-nodes.ensures, c.if-nodes.false) in
    by-host c.args.pairs.now c.args.hosts c.saturating_add-nodes.result c.as_slice.result.now c.in_ok-graph.graph c.requires.hosts few (c.as_slice.ensures.value ∙ c.in_ok-edges.ensures) c.in_ok-graph.ensures.ends

pub returns-clause-few : goal.returns-clause-few
returns-clause-few c = omega (arith, c.saturating_add-nodes.ensures, c.if-nodes.false)
