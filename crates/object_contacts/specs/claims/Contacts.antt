-- The contacts that blocks give (chapter "Object Definitions").
use Rattle.std.specs.Prelude.{◌≡◌, ℕ, Bool, true, List, codes, map, if◌then◌else◌}
use Rattle.std.specs.List.{AllZip}
use Rattle.due_model.specs.declared.config.Contact as model
use Rattle.due_model.specs.claims.Options.{every_letter}
use Rattle.due_model.specs.claims.Rules.{no_letter}
use Rattle.due_model.specs.declared.config.Rights.{Rights}
use Rattle.due_model.specs.declared.options.OptionLetters.{OptionLetters}
use Rattle.object_contacts.specs.claims.Lanes.{AreLanes, NamesLane}
use Rattle.object_contacts.specs.declared.rights.RightsKind.{RightsKind}
use Rattle.object_contacts.specs.declared.rights.RightsKind.TheVariants.{OfHosts, OfServices}
use Rattle.object_groups.specs.claims.Objects.{list_at, name_at, names_in, objects_in}
use Rattle.object_reader.specs.declared.block.Block.{Block}
use Rattle.object_reader.specs.declared.block.BlockKind.TheVariants.{Command, Contact, TimePeriod}
use Rattle.object_listing.specs.claims.Readings.{is_on, letters_or, period_at}
use Rattle.object_values.specs.declared.options.OptionKind.{OptionKind}
use Rattle.object_values.specs.declared.options.OptionKind.TheVariants.{Host, Service}

-- ---- the directives of a contact, for hosts and for services

abbrev pub enabled_directive : RightsKind → List ℕ
enabled_directive OfHosts = codes "host_notifications_enabled"
enabled_directive OfServices = codes "service_notifications_enabled"

abbrev pub options_directive : RightsKind → List ℕ
options_directive OfHosts = codes "host_notification_options"
options_directive OfServices = codes "service_notification_options"

abbrev pub period_directive : RightsKind → List ℕ
period_directive OfHosts = codes "host_notification_period"
period_directive OfServices = codes "service_notification_period"

abbrev pub commands_directive : RightsKind → List ℕ
commands_directive OfHosts = codes "host_notification_commands"
commands_directive OfServices = codes "service_notification_commands"

-- the kind of its option list
abbrev pub option_kind : RightsKind → OptionKind
option_kind OfHosts = Host
option_kind OfServices = Service

-- ---- contacts

-- The letters of a contact that lists no options, by this project's rule (it is told of everything) or the daemon's (of
-- nothing).
abbrev pub letters_unlisted : (daemons : Bool) → OptionLetters
letters_unlisted daemons = if daemons then no_letter else every_letter

-- The rights of the contact whose block stands at the place, for one kind of object. They are enabled, and hold
-- always, where it doesn't say; where it lists no options they have what the rule says. Their lanes are those that its list of commands
-- names, each once and in order.
pub record AreRightsOf (daemons : Bool) (blocks : List Block) (lane_commands : List ℕ)
    (kind : RightsKind) (place : ℕ) (rights : Rights) : Type 0 where
  pub enabled : rights.enabled ≡ is_on blocks (enabled_directive kind) true place
  pub options : rights.options ≡ letters_or blocks (options_directive kind) (option_kind kind)
      (letters_unlisted daemons) place
  pub period : rights.period
      ≡ period_at (names_in blocks TimePeriod) blocks (period_directive kind) place
  pub lanes : AreLanes
      (NamesLane (names_in blocks Command) lane_commands
      (list_at blocks (commands_directive kind) place))
      (map (λ lane. lane.0) rights.lanes)

-- the contact of the block at a place
pub record IsContactOf (daemons : Bool) (blocks : List Block) (lane_commands : List ℕ) (place : ℕ)
    (contact : model.Contact) : Type 0 where
  pub name : contact.name ≡ name_at blocks Contact place
  pub hosts : AreRightsOf daemons blocks lane_commands OfHosts place contact.hosts
  pub services : AreRightsOf daemons blocks lane_commands OfServices place contact.services

-- The contacts are those of the registered blocks, in file order, where `lane_commands` are the commands
-- of the lanes; what one has that lists no options, by this project's rule or the daemon's.
abbrev pub AreContactsOf : (daemons : Bool) → List Block → (lane_commands : List ℕ)
    → List model.Contact → Type 0
AreContactsOf daemons blocks lane_commands contacts =
    AllZip (IsContactOf daemons blocks lane_commands) (objects_in blocks Contact) contacts
