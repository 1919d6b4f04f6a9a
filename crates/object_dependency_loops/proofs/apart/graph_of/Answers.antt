use Rattle.std.proofs.Common.{◌+◌, ◌∙◌, List, subst, sym}
use Rattle.std.specs.Prelude.{All}
use Rattle.graph.specs.declared.edges.Edge.{Edge}
use Rattle.graph.specs.Edges.{IsWithin}
use Rattle.object_dependency_loops.proofs.ApartLemmas.{sides-are, sides-within}
use Rattle.object_dependency_loops.proofs.apart.graph_of.Goals as goal

pub new-requires : goal.new-requires
new-requires c =
    let r = c.args.rules.now in
    subst (λ (es : List Edge). All (IsWithin (r.nodes + 2)) es) (sym (c.as_slice.ensures.value ∙ c.in_ok-edges.ensures)) (sides-within r c.requires.within)

pub returns : goal.returns
returns c = sides-are c.args.rules.now c.as_slice.result.now c.in_ok-graph.graph (c.as_slice.ensures.value ∙ c.in_ok-edges.ensures) c.in_ok-graph.ensures.ends c.in_ok-graph.ensures.leads
