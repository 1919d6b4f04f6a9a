-- How many objects, escalations, dependencies, contacts, lanes and time periods blocks may give.
use Rattle.std.specs.Prelude.{ℕ, ◌+◌, ◌≤◌, List, length, sum_by}
use Rattle.due_model.specs.claims.Limits.{max_objects}
use Rattle.object_contacts.specs.claims.Lanes.{AreLanes, IsLane}
use Rattle.object_dependencies.specs.claims.Pairs.{ArePairsBelow}
use Rattle.object_escalations.specs.claims.Escalated.{AreEscalated}
use Rattle.object_groups.specs.claims.Objects.{objects_in}
use Rattle.object_reader.specs.declared.block.Block.{Block}
use Rattle.object_reader.specs.declared.block.BlockKind.TheVariants.{Host, Service}
use Rattle.object_resolve.specs.declared.limits.Counts.{Counts}
use Rattle.object_resolve.specs.Tables.{AreServices}
use Rattle.object_services.specs.claims.Limits.{AreHostLists, AreWithinLimit}
use Rattle.object_services.specs.Limits.{PassesNowhere}

-- The hosts and services keep within their limit, where these are the hosts of each service block.
pub record AreCounted (blocks : List Block) (hosts : List (List ℕ)) : Type 0 where
  pub hosts_are : AreHostLists blocks (objects_in blocks Service) hosts
  pub few : length (objects_in blocks Host) + sum_by length hosts ≤ max_objects
  pub within : AreWithinLimit blocks
  pub nowhere : PassesNowhere blocks

-- ---- how they are found

-- what is known of blocks that keep within the limits: the hosts of each service block, the services, the objects of
-- which each escalation block speaks, the dependents and masters of each dependency block, and the lanes
pub record AreCounts (blocks : List Block) (counts : Counts) : Type 0 where
  pub hosts_are : AreHostLists blocks (objects_in blocks Service) counts.hosts
  pub few : length (objects_in blocks Host) + sum_by length counts.hosts ≤ max_objects
  pub services_are : AreServices blocks counts.hosts counts.services
  pub spoken_are : AreEscalated blocks counts.hosts (length blocks) counts.escalated
  pub pairs_are : ArePairsBelow blocks counts.hosts (length blocks) counts.pairs
  pub lanes_are : AreLanes (IsLane blocks) counts.lanes.items
