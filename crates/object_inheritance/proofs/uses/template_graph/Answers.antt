use Rattle.std.proofs.Common.{List, ◌∙◌, ap, length}
use Rattle.std.proofs.lemmas.Result.{IfOk-weaker}
use Rattle.graph.specs.Edges.{ends_of}
use Rattle.graph.specs.declared.edges.Edge.{Edge}
use Rattle.object_reader.specs.declared.block.Block.{Block}
use Rattle.object_inheritance.proofs.UseLemmas.{graph-is}
use Rattle.object_inheritance.proofs.uses.template_graph.Goals as goal

pub returns : goal.returns
returns c = IfOk-weaker c.new.result _ _
    (λ graph has. graph-is c.args.names.now (length c.blocks-2.result.now) c.as_slice.result.now graph
    (ap (λ (blocks : List Block). length blocks) c.blocks-2.ensures.value)
    (λ p. ap (λ (edges : List Edge). ends_of edges p) c.as_slice.ensures.value ∙ c.in_ok-edges.ensures.ends p) has)
    c.new.ensures.ends
