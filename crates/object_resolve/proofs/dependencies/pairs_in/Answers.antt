use Rattle.std.proofs.Common.{subst, length}
use Rattle.std.specs.Prelude.{IfErr, IfOk}
use Rattle.object_dependencies.specs.Limits as dependent
use Rattle.object_dependencies.specs.claims.Pairs.{ArePairsBelow}
use Rattle.object_dependencies.specs.Pairs.{BlocksOf}
use Rattle.object_resolve.proofs.dependencies.pairs_in.Goals as goal

pub returns-clause-pairs : goal.returns-clause-pairs
returns-clause-pairs c =
    subst (λ (b : BlocksOf). IfOk c.new-2.result (ArePairsBelow b.blocks b.lists (length b.blocks))) c.in_ok-blocks.ensures c.new-2.ensures.pairs

pub returns-clause-fault : goal.returns-clause-fault
returns-clause-fault c =
    subst (λ (b : BlocksOf). IfErr c.new-2.result (dependent.IsRefusal b.blocks b.lists)) c.in_ok-blocks.ensures c.new-2.ensures.fault
