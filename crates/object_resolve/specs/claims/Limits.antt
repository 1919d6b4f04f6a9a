-- How many objects, escalations, dependencies, contacts, lanes and time periods blocks may give.
use Rattle.std.specs.Prelude.{◌≡◌, ℕ, ◌≤◌, ◌⊎◌, List, length, Some, slice_get}
use Rattle.due_model.specs.claims.Limits.{max_contacts, max_dependencies, max_escalations, max_lanes, max_periods}
use Rattle.object_contacts.specs.claims.Lanes.{AreLanes, IsLane}
use Rattle.object_dependencies.specs.claims.Limits as dependent
use Rattle.object_dependencies.specs.claims.Limits.{GiveDependencies}
use Rattle.object_escalations.specs.claims.Escalated as escalated
use Rattle.object_escalations.specs.claims.Escalated.{GiveEscalations}
use Rattle.object_groups.specs.claims.Objects.{objects_in}
use Rattle.object_reader.specs.declared.block.Block.{Block}
use Rattle.object_reader.specs.declared.block.BlockKind.{BlockKind}
use Rattle.object_reader.specs.declared.block.BlockKind.TheVariants.{Command, Contact, Service, TimePeriod}
use Rattle.object_services.specs.claims.Limits.{AreHostLists, AreWithinLimit, PassesLimit}

-- no more contacts, lanes and time periods than a configuration may have
pub record AreFewOthers (blocks : List Block) : Type 0 where
  pub contacts : length (objects_in blocks Contact) ≤ max_contacts
  pub lanes : (lanes : List ℕ) → AreLanes (IsLane blocks) lanes → length lanes ≤ max_lanes
  pub periods : length (objects_in blocks TimePeriod) ≤ max_periods

-- no more escalations: one for each object of which an escalation block speaks
abbrev pub AreFewEscalations : List Block → Type 0
AreFewEscalations blocks = (hosts : List (List ℕ))
    × AreHostLists blocks (objects_in blocks Service) hosts
    × ((count : ℕ) × GiveEscalations blocks hosts (length blocks) count × (count ≤ max_escalations))

-- no more dependencies: one for each dependent and each master of a dependency block with criteria
abbrev pub AreFewDependencies : List Block → Type 0
AreFewDependencies blocks = (hosts : List (List ℕ))
    × AreHostLists blocks (objects_in blocks Service) hosts
    × ((count : ℕ) × GiveDependencies blocks hosts (length blocks) count
    × (count ≤ max_dependencies))

-- The blocks keep within the limits: of hosts and services together, of escalations, of dependencies, and of the others.
pub record AreWithin (blocks : List Block) : Type 0 where
  pub objects : AreWithinLimit blocks
  pub escalations : AreFewEscalations blocks
  pub dependencies : AreFewDependencies blocks
  pub others : AreFewOthers blocks

-- ---- where they pass a limit

-- the block at the place is the first of its type that is one too many
abbrev pub IsOneOver : List Block → BlockKind → (limit place : ℕ) → Type 0
IsOneOver blocks kind limit place = slice_get (objects_in blocks kind) limit ≡ Some place

-- the block at the place is the command of the first lane that is one too many, where these are the lanes
abbrev pub IsLaneOver : List Block → (lanes : List ℕ) → ℕ → Type 0
IsLaneOver blocks lanes place = (command : ℕ)
    × (slice_get lanes max_lanes ≡ Some command)
    × (slice_get (objects_in blocks Command) command ≡ Some place)

abbrev pub PassesLanes : List Block → ℕ → Type 0
PassesLanes blocks place =
    (lanes : List ℕ) × AreLanes (IsLane blocks) lanes × IsLaneOver blocks lanes place

-- with the block at the place there are too many contacts, time periods or lanes
abbrev pub PassesOther : List Block → ℕ → Type 0
PassesOther blocks place = IsOneOver blocks Contact max_contacts place
    ⊎ (IsOneOver blocks TimePeriod max_periods place ⊎ PassesLanes blocks place)

-- With the block at the place there are too many escalations. They are of objects, so they are counted where the
-- objects keep within their limit.
abbrev pub PassesEscalations : List Block → ℕ → Type 0
PassesEscalations blocks place = AreWithinLimit blocks × ((hosts : List (List ℕ))
    × AreHostLists blocks (objects_in blocks Service) hosts
    × escalated.PassesLimit blocks hosts place)

-- The same of dependencies.
abbrev pub PassesDependencies : List Block → ℕ → Type 0
PassesDependencies blocks place = AreWithinLimit blocks × ((hosts : List (List ℕ))
    × AreHostLists blocks (objects_in blocks Service) hosts
    × dependent.PassesLimit blocks hosts place)

-- with the block at the place there are too many dependencies, contacts, time periods or lanes
abbrev pub PassesRest : List Block → ℕ → Type 0
PassesRest blocks place = PassesDependencies blocks place ⊎ PassesOther blocks place

-- The blocks pass a limit at the place: with the block there they give more than fit.
abbrev pub IsOver : List Block → ℕ → Type 0
IsOver blocks place =
    PassesLimit blocks place ⊎ (PassesEscalations blocks place ⊎ PassesRest blocks place)
