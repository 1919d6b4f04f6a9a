use Rattle.std.proofs.Common.{subst}
use Rattle.std.specs.Prelude.{IfNone, IfOk, IfSome}
use Rattle.object_dependencies.specs.Loops.{HasNoDependencyLoop, IsFirstLooped}
use Rattle.object_dependencies.specs.Pairs.{BlocksOf}
use Rattle.object_resolve.proofs.dependencies.looped_in.Goals as goal

pub returns-clause-first : goal.returns-clause-first
returns-clause-first c =
    subst (λ (b : BlocksOf). IfOk c.loop_of.result (λ found. IfSome found (IsFirstLooped b.blocks b.lists))) c.in_ok-blocks.ensures c.loop_of.ensures.first

pub returns-clause-no_loop : goal.returns-clause-no_loop
returns-clause-no_loop c =
    subst (λ (b : BlocksOf). IfOk c.loop_of.result (λ found. IfNone found (HasNoDependencyLoop b.blocks b.lists))) c.in_ok-blocks.ensures c.loop_of.ensures.no_loop
