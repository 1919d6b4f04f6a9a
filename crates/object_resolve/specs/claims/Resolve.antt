-- The configuration that blocks give, or the block that is refused, and why (chapters "Object Definitions" and
-- "Object Inheritance").
use Rattle.std.specs.Prelude.{◌≡◌, ℕ, ◌⊎◌, List}
use Rattle.due_model.specs.declared.config.Config.{Config}
use Rattle.object_dependencies.specs.claims.Loops as dependencies
use Rattle.object_faults.specs.claims.Faults as values
use Rattle.object_faults.specs.declared.fault.ValueFault.{ValueFault}
use Rattle.object_groups.specs.claims.Objects.{objects_in}
use Rattle.object_inheritance.specs.claims.Faults as templates
use Rattle.object_inheritance.specs.declared.templates.TemplateFault.{TemplateFault}
use Rattle.object_periods.specs.claims.Loops.{IsLoopedAt}
use Rattle.object_reader.specs.declared.block.Block.{Block}
use Rattle.object_reader.specs.declared.block.BlockKind.TheVariants.{Service}
use Rattle.object_resolve.specs.claims.Config.{IsConfigOf}
use Rattle.object_faults.specs.claims.LoadFaults.{of_template, of_value}
use Rattle.object_resolve.specs.claims.First.{IsFault, IsNowhere}
use Rattle.object_resolve.specs.claims.Limits.{AreWithin, IsOver}
use Rattle.object_resolve.specs.claims.Names.{IsFirstMisnamed, IsMisnamed}
use Rattle.object_faults.specs.declared.load_fault.BlockFault.{BlockFault}
use Rattle.object_faults.specs.declared.load_fault.BlockFault.TheVariants.{DependencyLoop, PeriodLoop, TooMany}
use Rattle.object_services.specs.claims.Limits.{AreHostLists, AreWithinLimit}

-- ---- loops of dependencies

-- The block at the place lies on a loop of dependencies. Dependencies are of objects, so their loops are looked for where
-- the objects keep within their limit; where they don't, that is the fault.
abbrev pub IsDependencyLooped : List Block → ℕ → Type 0
IsDependencyLooped blocks place = AreWithinLimit blocks × ((hosts : List (List ℕ))
    × AreHostLists blocks (objects_in blocks Service) hosts
    × dependencies.IsLoopedAt blocks hosts place)

-- ---- what is resolved

-- The blocks fit each other, and the configuration is theirs.
pub record IsFitting (blocks : List Block) (config : Config) : Type 0 where
  pub named : IsNowhere (IsMisnamed blocks)
  pub no_loop : IsNowhere (IsLoopedAt blocks)
  pub no_dependency_loop : IsNowhere (IsDependencyLooped blocks)
  pub within : AreWithin blocks
  pub gives : IsConfigOf blocks config

-- Resolved: none of the faults stands in the blocks, and the configuration is theirs.
pub record IsResolved (blocks : List Block) (config : Config) : Type 0 where
  pub templates : templates.AreFree blocks
  pub values : values.AreFree blocks
  pub fitting : IsFitting blocks config

-- ---- what is refused, pass by pass

-- the first block with a fault of its templates, and the fault
abbrev pub IsMistemplated : List Block → ℕ → BlockFault → Type 0
IsMistemplated blocks line fault = (own : TemplateFault)
    × templates.IsFirstFault blocks line own × (fault ≡ of_template own)

-- the first block with a fault of its values
abbrev pub IsMisvalued : List Block → ℕ → BlockFault → Type 0
IsMisvalued blocks line fault = (own : ValueFault)
    × values.IsFirstFault blocks line own × (fault ≡ of_value own)

-- the first block that is a time period on a loop of exclusions
abbrev pub IsFirstLooped : List Block → ℕ → BlockFault → Type 0
IsFirstLooped blocks = IsFault PeriodLoop (IsLoopedAt blocks) blocks

-- the first block that lies on a loop of dependencies
abbrev pub IsFirstDependencyLooped : List Block → ℕ → BlockFault → Type 0
IsFirstDependencyLooped blocks = IsFault DependencyLoop (IsDependencyLooped blocks) blocks

-- the first block that passes a limit
abbrev pub IsFirstOver : List Block → ℕ → BlockFault → Type 0
IsFirstOver blocks = IsFault TooMany (IsOver blocks) blocks

-- the first block that lies on a loop of dependencies, or where none does the first that passes a limit
abbrev pub IsLoopedOrOver : List Block → ℕ → BlockFault → Type 0
IsLoopedOrOver blocks line fault = IsFirstDependencyLooped blocks line fault
    ⊎ (IsNowhere (IsDependencyLooped blocks) × IsFirstOver blocks line fault)

-- The first block that doesn't fit the others: by its names, by a loop of exclusions, by one of dependencies, or by a
-- limit.
abbrev pub IsUnfit : List Block → ℕ → BlockFault → Type 0
IsUnfit blocks line fault = IsFirstMisnamed blocks line fault
    ⊎ (IsNowhere (IsMisnamed blocks) × (IsFirstLooped blocks line fault
    ⊎ (IsNowhere (IsLoopedAt blocks) × IsLoopedOrOver blocks line fault)))

-- What a refusal says: the first block with a fault in the first pass that finds one. The passes are, each over
-- all blocks in file order: templates, the values of each block, names, loops of exclusions, loops of dependencies,
-- limits.
abbrev pub IsRefusal : List Block → ℕ → BlockFault → Type 0
IsRefusal blocks line fault = IsMistemplated blocks line fault
    ⊎ (templates.AreFree blocks × (IsMisvalued blocks line fault
    ⊎ (values.AreFree blocks × IsUnfit blocks line fault)))
