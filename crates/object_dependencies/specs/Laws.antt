-- Laws of the dependencies that are made of blocks, of any blocks: what an accepted configuration asks of them.
use Rattle.std.specs.Prelude.{◌≡◌, ℕ, ◌+◌, List, length, All}
use Rattle.due_model.specs.claims.Accepted.{DependencyFits, DependsOn, HasNoLoop}
use Rattle.due_model.specs.declared.config.Config.{Config}
use Rattle.object_groups.specs.claims.Objects.{names_in, objects_in}
use Rattle.object_reader.specs.declared.block.Block.{Block}
use Rattle.object_reader.specs.declared.block.BlockKind.TheVariants.{Host, Service}
use Rattle.object_services.specs.claims.Limits.{AreHostLists}
use Rattle.object_services.specs.claims.Numbers.{pairs_of}
use Rattle.object_dependencies.specs.claims.Entries.{AreDependencies}
use Rattle.object_dependencies.specs.Loops.{HasNoDependencyLoop}

-- The dependent and the master of a dependency are there, and so is its period; in a configuration of that many objects
-- and periods.
abbrev pub DependenciesFit : Type 0
DependenciesFit = (blocks : List Block) (lists periods : List (List ℕ)) (c : Config)
    → AreHostLists blocks (objects_in blocks Service) lists
    → length c.objects
    ≡ length (names_in blocks Host) + length (pairs_of (names_in blocks Service) lists)
    → length c.periods ≡ length periods
    → AreDependencies blocks lists periods c.dependencies → All (DependencyFits c) c.dependencies

-- Where no block lies on a loop of dependencies, no chain of dependencies of the configuration comes back.
abbrev pub NoLoopIsLeft : Type 0
NoLoopIsLeft = (blocks : List Block) (lists periods : List (List ℕ)) (c : Config)
    → AreDependencies blocks lists periods c.dependencies → HasNoDependencyLoop blocks lists
    → HasNoLoop (DependsOn c)
