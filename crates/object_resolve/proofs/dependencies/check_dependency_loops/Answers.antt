use Rattle.std.proofs.Common.{subst}
use Rattle.std.specs.Prelude.{ℕ, List, IfNone, IfSome, Option}
use Rattle.object_dependencies.specs.Loops.{HasNoDependencyLoop, IsFirstLooped}
use Rattle.object_reader.specs.declared.block.Block.{Block}
use Rattle.object_resolve.specs.Fault.{IsOfPlace}
use Rattle.object_faults.specs.declared.load_fault.BlockFault.TheVariants.{DependencyLoop}
use Rattle.object_resolve.proofs.LimitLemmas.{looped-first, looped-none, looped-refused}
use Rattle.object_resolve.proofs.dependencies.check_dependency_loops.Goals as goal

pub returns-in-Some-clause-fault : goal.returns-in-Some-clause-fault
returns-in-Some-clause-fault c =
    looped-refused c.args.templates.now c.in-Some.place c.of_place.result
    (looped-first c.args.templates.now c.args.hosts.now c.in-Some.place c.requires.keeps c.requires.hosts
    (subst (λ (found : Option ℕ). IfSome found (IsFirstLooped c.args.templates.now c.args.hosts.now)) c.in-Some.is c.in_ok-place.ensures.first))
    (subst (λ (bs : List Block). IsOfPlace bs c.in-Some.place DependencyLoop c.of_place.result) c.blocks-in-Some.ensures.value c.of_place.ensures)

pub returns-in-None-clause-none : goal.returns-in-None-clause-none
returns-in-None-clause-none c =
    looped-none c.args.templates.now c.args.hosts.now c.requires.hosts
    (subst (λ (found : Option ℕ). IfNone found (HasNoDependencyLoop c.args.templates.now c.args.hosts.now)) c.in-None.is c.in_ok-place.ensures.no_loop)
