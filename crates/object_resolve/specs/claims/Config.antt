-- The configuration that blocks give (chapter "Object Definitions").
use Rattle.std.specs.Prelude.{◌≡◌, ℕ, List, [], length, map, slice_index_or}
use Rattle.due_model.specs.declared.config.Config.{Config}
use Rattle.object_contacts.specs.claims.Contacts.{AreContactsOf}
use Rattle.object_contacts.specs.claims.Lanes.{AreLanes, IsLane}
use Rattle.object_dependencies.specs.claims.Entries.{AreDependencies}
use Rattle.object_escalations.specs.claims.Entries.{AreEntriesOf}
use Rattle.object_escalations.specs.claims.Escalated.{AreEscalated}
use Rattle.object_groups.specs.claims.Objects.{names_in, objects_in}
use Rattle.object_periods.specs.claims.Periods.{ArePeriodsOf}
use Rattle.object_reader.specs.declared.block.Block.{Block}
use Rattle.object_reader.specs.declared.block.BlockKind.TheVariants.{Command, Service, TimePeriod}
use Rattle.object_services.specs.claims.Limits.{AreHostLists}
use Rattle.object_settings.specs.claims.Settings.{AreObjectsOf}

-- the name of the command of a number
abbrev pub command_at : List Block → ℕ → List ℕ
command_at blocks command = slice_index_or (names_in blocks Command) command []

-- The configuration of blocks: hosts in file order and then services, block by block and within a block host by host;
-- contacts and time periods in file order; the lanes, which are the commands that a registered contact names, in
-- the order of their blocks; escalations, block by block and within a block object by object; and dependencies, block
-- by block and within a block dependent by dependent and master by master. Whose rules decide isn't said by blocks; what a
-- contact has that lists no options goes by them.
pub record IsConfigOf (blocks : List Block) (config : Config) : Type 0 where
  -- the hosts of each service block
  pub hosts : List (List ℕ)
  pub hosts_are : AreHostLists blocks (objects_in blocks Service) hosts
  -- the commands of the lanes
  pub lanes : List ℕ
  pub lanes_are : AreLanes (IsLane blocks) lanes
  -- the objects of which each escalation block speaks
  pub spoken : List (List ℕ)
  pub spoken_are : AreEscalated blocks hosts (length blocks) spoken
  pub objects : AreObjectsOf blocks hosts config.objects
  pub contacts : AreContactsOf config.choices.contact_none blocks lanes config.contacts
  pub named : map (λ lane. lane.name) config.lanes ≡ map (command_at blocks) lanes
  pub periods : ArePeriodsOf blocks config.periods
  pub escalations : AreEntriesOf blocks config.objects spoken config.escalations
  pub dependencies : AreDependencies blocks hosts (names_in blocks TimePeriod) config.dependencies
