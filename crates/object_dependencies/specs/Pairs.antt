-- The pairs of dependents and masters that dependency blocks give (chapter "Host and Service Dependencies").
use Rattle.std.specs.Prelude.{◌≡◌, ℕ, ◌+◌, ◌<◌, ◌^◌, List, codes, length, map, flat_map}
use Rattle.object_groups.specs.claims.Objects.{names_in, objects_in}
use Rattle.object_inheritance.specs.Columns.{Column}
use Rattle.object_reached.specs.declared.roles.Role.TheVariants.{Dependent, Master}
use Rattle.object_reached.specs.Reached.{ReachedOf}
use Rattle.object_reader.specs.declared.block.Block.{Block}
use Rattle.object_reader.specs.declared.block.BlockKind.TheVariants.{Host, Service}
use Rattle.object_services.specs.claims.Limits.{AreHostLists}
use Rattle.object_services.specs.claims.Numbers.{pairs_of}
use Rattle.object_services.specs.claims.Numbers as services
use Rattle.object_dependencies.specs.claims.Pairs.{Pair}

-- ---- how they are kept

-- for each of these dependents, in order, a pair with each of these masters, in order
abbrev pub paired : (dependents masters : List ℕ) → List Pair
paired dependents masters =
    flat_map (λ dependent. map (λ master. (dependent, master)) masters) dependents

-- blocks, and the hosts of each service block
pub record BlocksOf : Type 0 where
  pub blocks : List Block
  pub lists : List (List ℕ)

-- what blocks have for the directives of dependencies
pub record AreDependencyBlocks (blocks : List Block) (lists : List (List ℕ))
    (masters dependents : ReachedOf)
    (criteria : Column) (services : List services.Pair) : Type 0 where
  pub masters_are : masters ≡ record { blocks = blocks; role = Master }
  pub dependents_are : dependents ≡ record { blocks = blocks; role = Dependent }
  pub criteria_are :
      criteria ≡ record { blocks = blocks; directive = codes "notification_failure_criteria" }
  pub host_lists : AreHostLists blocks (objects_in blocks Service) lists
  pub services_are : services ≡ pairs_of (names_in blocks Service) lists
  pub few : length (names_in blocks Host) + length services < 2 ^ 32
