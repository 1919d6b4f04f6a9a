use Rattle.std.proofs.Common.{List, ℕ, ◌∙◌, ap, length}
use Rattle.object_reader.specs.declared.block.Block.{Block}
use Rattle.object_inheritance.specs.declared.templates.Uses.{Uses}
use Rattle.object_inheritance.proofs.InheritedLemmas.{graph-long}
use Rattle.object_inheritance.proofs.templates.Templates.graph.Goals as goal

pub returns-clause-long : goal.returns-clause-long
returns-clause-long c =
    ap (λ (graph : List (List ℕ)). length graph) (c.graph.ensures ∙ ap (λ (one : Uses). one.graph) c.deref.ensures ∙ c.self.invariant.using.same) ∙ graph-long c.self.inside.blocks.now
    ∙ ap (λ (blocks : List Block). length blocks) c.self.view_is
