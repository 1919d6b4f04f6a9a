-- How the objects are made: what each block gives is found once, and then taken for each of its objects.
use Rattle.std.specs.Prelude.{◌≡◌, ℕ, true, false, List, ◌++◌, map, codes, unwrap_or, Option, None, Some, IfSome, slice_get, slice_index_or, if◌then◌else◌}
use Rattle.std.specs.List.{AllZip}
use Rattle.due_model.specs.claims.Objects.{object_id}
use Rattle.due_model.specs.declared.config.ContactId.{ContactId}
use Rattle.due_model.specs.declared.config.Object.{Object}
use Rattle.due_model.specs.declared.options.OptionLetters.{OptionLetters}
use Rattle.object_groups.specs.claims.Objects.{name_at, names_in}
use Rattle.object_inheritance.specs.Columns.{Column}
use Rattle.object_listing.specs.claims.Listing.{AreThose, contact_directives, gives_neither, IsListed}
use Rattle.object_reader.specs.declared.block.Block.{Block}
use Rattle.object_reader.specs.declared.block.BlockKind.TheVariants.{Host, TimePeriod}
use Rattle.object_listing.specs.claims.Readings.{is_on, letters_at, number_at, own_number, own_period}
use Rattle.object_settings.specs.declared.own.Own.{Own}
use Rattle.object_settings.specs.declared.tables.Filters.{Filters}
use Rattle.object_settings.specs.declared.tables.Times.{Times}
use Rattle.object_settings.specs.claims.Settings.{IsObjectOf, Origin}
use Rattle.object_values.specs.declared.options.OptionKind.{OptionKind}
use Rattle.object_values.specs.declared.options.OptionKind.TheVariants as lists

-- what all blocks have for the directives that say when notices are sent
pub record AreTimes (blocks : List Block) (times : Times) : Type 0 where
  pub intervals_are :
      times.intervals ≡ record { blocks = blocks; directive = codes "notification_interval" }
  pub periods_are :
      times.periods ≡ record { blocks = blocks; directive = codes "notification_period" }
  pub delays_are :
      times.delays ≡ record { blocks = blocks; directive = codes "first_notification_delay" }

-- those that say of what
pub record AreFilters (blocks : List Block) (filters : Filters) : Type 0 where
  pub options_are :
      filters.options ≡ record { blocks = blocks; directive = codes "notification_options" }
  pub flags_are :
      filters.flags ≡ record { blocks = blocks; directive = codes "notifications_enabled" }
  pub volatiles_are :
      filters.volatiles ≡ record { blocks = blocks; directive = codes "is volatile" }

-- and those that say to whom
pub record AreTables (blocks : List Block) (contacts : List Block) (times : Times)
    (filters : Filters) : Type 0 where
  pub contacts_are : contacts ≡ blocks
  pub times_are : AreTimes blocks times
  pub filters_are : AreFilters blocks filters

-- the directive of the options
abbrev pub options_of : List Block → Column
options_of blocks = record { blocks = blocks; directive = codes "notification_options" }

-- what was read of a block, by its place, are the letters that it allows
pub record AreRead (options : Column) (kind : OptionKind)
    (read : List (Option OptionLetters)) : Type 0 where
  pub each : (place : ℕ) → IfSome (slice_index_or read place None)
      (λ letters. letters ≡ letters_at options.blocks options.directive kind place)

-- what the block at the place gives, with the name of its object
pub record IsOwn (blocks : List Block) (kind : OptionKind) (name : List ℕ) (place : ℕ)
    (own : Own) : Type 0 where
  pub named : own.name.now ≡ name
  pub enabled : own.enabled ≡ is_on blocks (codes "notifications_enabled") true place
  pub volatile : own.volatile ≡ is_on blocks (codes "is volatile") false place
  pub options : own.options ≡ letters_at blocks (codes "notification_options") kind place
  pub delay : own.delay ≡ number_at blocks (codes "first_notification_delay") 0 place
  pub interval : own.interval ≡ own_number blocks (codes "notification_interval") place
  pub period : own.period
      ≡ own_period (names_in blocks TimePeriod) blocks (codes "notification_period") place
  pub lacks : own.lacks_contacts ≡ gives_neither blocks contact_directives place
  pub contacts : AreThose (IsListed blocks contact_directives place)
      (map (λ contact. contact.0) own.contacts.now)

-- the contacts, of the one or the other
abbrev pub contacts_of : (own host : Own) → List ContactId
contacts_of own host = if own.lacks_contacts then host.contacts.now else own.contacts.now

-- what was taken for an object, where that host's is taken where its own lacks something
pub record IsTaken (own host : Own) (object : Object) : Type 0 where
  pub name : object.name ≡ own.name.now
  pub enabled : object.enabled ≡ own.enabled
  pub options : object.options ≡ own.options
  pub delay : object.delay ≡ own.delay
  pub volatile : object.volatile ≡ own.volatile
  pub interval : object.interval ≡ unwrap_or own.interval (unwrap_or host.interval 30)
  pub period : object.period ≡ unwrap_or own.period (unwrap_or host.period None)
  pub contacts : object.contacts ≡ contacts_of own host

-- ---- hosts

-- what the block of a host gives
abbrev pub IsOwnOfHost : List Block → (place : ℕ) → Own → Type 0
IsOwnOfHost blocks place own = IsOwn blocks lists.Host (name_at blocks Host place) place own

-- a host that was made
abbrev pub IsHostTaken : Own → Object → Type 0
IsHostTaken own object = (object.host ≡ None) × IsTaken own own object

-- ---- services

-- a service that was made, on the host of that number
pub record IsServiceTaken (hosts : List Own) (own : Own) (number : ℕ)
    (object : Object) : Type 0 where
  pub host : Own
  pub here : slice_get hosts number ≡ Some host
  pub named : object.host ≡ Some (object_id number)
  pub taken : IsTaken own host object

-- a service of the block came for each of the numbers
pub record AddsServices (hosts : List Own) (own : Own) (numbers : List ℕ)
    (old new : List Object) : Type 0 where
  pub added : List Object
  pub are : new ≡ old ++ added
  pub all : AllZip (IsServiceTaken hosts own) numbers added

-- the objects that come from there came
pub record AddsObjects (blocks : List Block) (origins : List Origin)
    (old new : List Object) : Type 0 where
  pub added : List Object
  pub are : new ≡ old ++ added
  pub all : AllZip (IsObjectOf blocks) origins added
