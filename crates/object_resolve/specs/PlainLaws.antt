-- A law of the configuration of plain blocks: without templates and groups it is what the blocks say themselves
-- (chapters "Object Definitions" and "Object Inheritance").
use Rattle.std.specs.Prelude.{◌≡◌, ℕ, All, List, [], ◌++◌, length, map, codes, unwrap_or, Option, None, Some, Contains, slice_index_or, ◌⊎◌}
use Rattle.std.specs.List.{AllZip}
use Rattle.due_model.specs.declared.config.Config.{Config}
use Rattle.due_model.specs.declared.config.Object.{Object}
use Rattle.due_model.specs.declared.config.Period.{Period}
use Rattle.object_contacts.specs.claims.Lanes.{AreLanes, NamesCommand}
use Rattle.object_contacts.specs.Laws.{IsPlainContact}
use Rattle.object_dependencies.specs.claims.Entries.{AreDependencies}
use Rattle.object_escalations.specs.claims.Entries.{AreEntriesOf}
use Rattle.object_escalations.specs.claims.Escalated.{AreEscalated}
use Rattle.object_groups.specs.claims.Names.{Lists, numbers_of}
use Rattle.object_groups.specs.claims.Objects.{name_directive, names_in, objects_in}
use Rattle.object_inheritance.specs.claims.Inherited.{own}
use Rattle.object_listing.specs.claims.Listing.{AreThose}
use Rattle.object_periods.specs.claims.Periods.{line_ranges}
use Rattle.object_reader.specs.declared.block.Block.{Block}
use Rattle.object_reader.specs.declared.block.BlockKind.{BlockKind}
use Rattle.object_reader.specs.declared.block.BlockKind.TheVariants.{Command, Contact, Host, Service, TimePeriod}
use Rattle.object_resolve.specs.claims.Config.{IsConfigOf}
use Rattle.object_listing.specs.Plain.{plain_list}
use Rattle.object_settings.specs.Laws.{IsPlainHost, IsPlainService}
use Rattle.object_settings.specs.claims.Settings.{host_origins, Origin, service_origins}
use Rattle.object_values.specs.claims.Ranges.{weekdays}

-- The blocks are plain: none uses templates or lists contact groups, and no service block lists host groups. Groups
-- may be there; nothing of hosts, services and contacts comes from them.
pub record AreAllPlain (blocks : List Block) : Type 0 where
  pub templates : (place : ℕ) → own blocks (codes "use") place ≡ None
  pub contact_groups : (place : ℕ) → own blocks (codes "contact_groups") place ≡ None
  pub host_groups : All (λ place. own blocks (codes "hostgroup_name") place ≡ None)
      (objects_in blocks Service)

-- ---- what blocks give themselves

-- the name of the object at the place; empty where it gives none
abbrev pub plain_name : List Block → BlockKind → (place : ℕ) → List ℕ
plain_name blocks kind place = unwrap_or (own blocks (name_directive kind) place) []

-- the same of each object of the type, by their numbers
abbrev pub plain_names : List Block → BlockKind → List (List ℕ)
plain_names blocks kind = map (plain_name blocks kind) (objects_in blocks kind)

-- the entries of a list; none where it gives no list
abbrev pub plain_entries : List Block → (directive : List ℕ) → (place : ℕ) → List (List ℕ)
plain_entries blocks directive place = unwrap_or (plain_list blocks directive place) []

-- ---- objects

-- exactly the hosts that the block at the place names, each once and in number order
abbrev pub ArePlainHosts : List Block → (place : ℕ) → (hosts : List ℕ) → Type 0
ArePlainHosts blocks place hosts =
    AreThose (Lists (names_in blocks Host) (plain_entries blocks (codes "host_name") place)) hosts

-- the host that a plain block gives, or its service on the host of that number
abbrev pub IsPlainGiven : List Block → (place : ℕ) → (host : Option ℕ) → Object → Type 0
IsPlainGiven blocks place None object = IsPlainHost blocks place object
IsPlainGiven blocks place (Some number) object = IsPlainService blocks place number object

-- The hosts in file order, and then the services block by block and within a block host by host, where these are
-- the hosts of each service block.
abbrev pub ArePlainObjects : List Block → (hosts : List (List ℕ)) → List Object → Type 0
ArePlainObjects blocks hosts objects =
    AllZip (λ (origin : Origin) object. IsPlainGiven blocks origin.place origin.host object)
    (host_origins blocks ++ service_origins blocks hosts) objects

-- ---- lanes

-- a registered contact names the command in its own list for the directive
abbrev pub IsPlainUsed : List Block → (directive : List ℕ) → (command : ℕ) → Type 0
IsPlainUsed blocks directive command = (place : ℕ) × Contains (objects_in blocks Contact) place
    × NamesCommand (names_in blocks Command) (plain_entries blocks directive place) command

-- A command is a lane where a registered contact names it in one of its own two lists.
abbrev pub IsPlainLane : List Block → (command : ℕ) → Type 0
IsPlainLane blocks command = IsPlainUsed blocks (codes "host_notification_commands") command
    ⊎ IsPlainUsed blocks (codes "service_notification_commands") command

-- ---- periods

-- The period of a plain block: its name, the ranges of its own line for each weekday from Sunday on, and the
-- periods that its own list excludes.
pub record IsPlainPeriod (blocks : List Block) (place : ℕ) (period : Period) : Type 0 where
  pub name : period.name ≡ plain_name blocks TimePeriod place
  pub days : period.days ≡ map (λ weekday. line_ranges (own blocks weekday place)) weekdays
  pub excludes : map (λ excluded. excluded.0) period.excludes
      ≡ numbers_of (names_in blocks TimePeriod) (plain_entries blocks (codes "exclude") place)

-- ---- the law

-- The configuration of plain blocks. Every name by which a list finds something is one that its block gives itself.
-- The hosts of a service block are those that it names. Hosts, services, contacts and periods are what their own
-- blocks say, in the order of the blocks; the lanes are the commands that registered contacts name themselves.
-- Of escalations and dependencies it says what `IsConfigOf` says: these may still list by groups.
pub record IsPlainConfig (blocks : List Block) (config : Config) : Type 0 where
  pub names : (kind : BlockKind) → names_in blocks kind ≡ plain_names blocks kind
  -- the hosts of each service block
  pub hosts : List (List ℕ)
  pub hosts_are : AllZip (ArePlainHosts blocks) (objects_in blocks Service) hosts
  -- the commands of the lanes
  pub lanes : List ℕ
  pub lanes_are : AreLanes (IsPlainLane blocks) lanes
  pub objects : ArePlainObjects blocks hosts config.objects
  pub contacts : AllZip (IsPlainContact config.choices.contact_none blocks lanes)
      (objects_in blocks Contact) config.contacts
  pub named : map (λ lane. lane.name) config.lanes
      ≡ map (λ command. slice_index_or (plain_names blocks Command) command []) lanes
  pub periods : AllZip (IsPlainPeriod blocks) (objects_in blocks TimePeriod) config.periods
  -- the objects of which each escalation block speaks
  pub spoken : List (List ℕ)
  pub spoken_are : AreEscalated blocks hosts (length blocks) spoken
  pub escalations : AreEntriesOf blocks config.objects spoken config.escalations
  pub dependencies : AreDependencies blocks hosts (names_in blocks TimePeriod) config.dependencies

-- Without templates and groups, the configuration that blocks give is what they say themselves.
abbrev pub PlainConfigIsTheirOwn : Type 0
PlainConfigIsTheirOwn = (blocks : List Block) (config : Config)
    → AreAllPlain blocks → IsConfigOf blocks config → IsPlainConfig blocks config
