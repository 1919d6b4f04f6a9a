-- The hosts and services of a configuration, and their notification settings (chapters "Object Definitions",
-- "Object Inheritance" and "Notifications").
use Rattle.std.specs.Prelude.{◌≡◌, ℕ, true, false, List, [], ◌++◌, length, map, codes, unwrap_or, Option, None, Some, slice_index_or, if◌then◌else◌}
use Rattle.std.specs.List.{AllZip, flat_map, range_with_len}
use Rattle.due_model.specs.claims.Objects.{object_id}
use Rattle.due_model.specs.declared.config.Object.{Object}
use Rattle.due_model.specs.declared.config.PeriodId.{PeriodId}
use Rattle.object_groups.specs.claims.Objects.{name_at, names_in, objects_in}
use Rattle.object_listing.specs.claims.Listing.{AreThose, contact_directives, gives_neither, IsListed}
use Rattle.object_reader.specs.declared.block.Block.{Block}
use Rattle.object_reader.specs.declared.block.BlockKind.TheVariants.{Host, Service, TimePeriod}
use Rattle.object_listing.specs.claims.Readings.{is_on, letters_at, number_at, own_number, own_period, period_at}
use Rattle.object_values.specs.declared.options.OptionKind.{OptionKind}
use Rattle.object_values.specs.declared.options.OptionKind.TheVariants as lists

-- ---- what an object takes from its host, where its own block lacks it; a host's host is itself

-- the block that says who is notified: its own or, where that gives neither contacts nor contact groups, the host's
abbrev pub contacts_from : List Block → (own host : ℕ) → ℕ
contacts_from blocks own host = if gives_neither blocks contact_directives own then host else own

-- the interval
abbrev pub interval_from : List Block → (own host : ℕ) → ℕ
interval_from blocks own host = unwrap_or (own_number blocks (codes "notification_interval") own)
    (number_at blocks (codes "notification_interval") 30 host)

-- the period
abbrev pub period_from : List Block → (own host : ℕ) → Option PeriodId
period_from blocks own host =
    unwrap_or (own_period (names_in blocks TimePeriod) blocks (codes "notification_period") own)
    (period_at (names_in blocks TimePeriod) blocks (codes "notification_period") host)

-- ---- one object

-- The notification settings of an object: those that its own block gives, by itself or by its templates, and
-- where it lacks contacts, interval or period those of its host's block.
pub record HasSettings (blocks : List Block) (kind : OptionKind) (own host : ℕ)
    (object : Object) : Type 0 where
  pub enabled : object.enabled ≡ is_on blocks (codes "notifications_enabled") true own
  pub options : object.options ≡ letters_at blocks (codes "notification_options") kind own
  pub delay : object.delay ≡ number_at blocks (codes "first_notification_delay") 0 own
  -- Text has no such name: a block with `is_volatile 1` is refused, but where text is read as Nagios reads it.
  pub volatile : object.volatile ≡ is_on blocks (codes "is volatile") false own
  pub interval : object.interval ≡ interval_from blocks own host
  pub period : object.period ≡ period_from blocks own host
  pub contacts : AreThose (IsListed blocks contact_directives (contacts_from blocks own host))
      (map (λ contact. contact.0) object.contacts)

-- the host that the block at the place gives
pub record IsHostOf (blocks : List Block) (place : ℕ) (object : Object) : Type 0 where
  pub name : object.name ≡ name_at blocks Host place
  pub host : object.host ≡ None
  pub settings : HasSettings blocks lists.Host place place object

-- where the block of the host of that number stands
abbrev pub host_place : List Block → ℕ → ℕ
host_place blocks number = slice_index_or (objects_in blocks Host) number 0

-- the service that the block at the place gives on the host of that number
pub record IsServiceOf (blocks : List Block) (place number : ℕ) (object : Object) : Type 0 where
  pub name : object.name ≡ name_at blocks Service place
  pub host : object.host ≡ Some (object_id number)
  pub settings : HasSettings blocks lists.Service place (host_place blocks number) object

-- where an object comes from: the place of its block, and the number of its host, where it is a service
pub record Origin : Type 0 where
  pub place : ℕ
  pub host : Option ℕ

-- the object that a block gives
abbrev pub IsGiven : List Block → (place : ℕ) → (host : Option ℕ) → Object → Type 0
IsGiven blocks place None object = IsHostOf blocks place object
IsGiven blocks place (Some number) object = IsServiceOf blocks place number object

abbrev pub IsObjectOf : List Block → Origin → Object → Type 0
IsObjectOf blocks origin object = IsGiven blocks origin.place origin.host object

-- ---- all objects

-- the hosts, in file order
abbrev pub host_origins : List Block → List Origin
host_origins blocks = map (λ place. record { place = place; host = None }) (objects_in blocks Host)

-- the services of the service block of that number, where these are the hosts of each: host by host
abbrev pub block_origins : List Block → (hosts : List (List ℕ)) → ℕ → List Origin
block_origins blocks hosts number = map
    (λ host. record
    { place = slice_index_or (objects_in blocks Service) number 0; host = Some host })
    (slice_index_or hosts number [])

-- those of all service blocks, block by block
abbrev pub service_origins : List Block → (hosts : List (List ℕ)) → List Origin
service_origins blocks hosts =
    flat_map (block_origins blocks hosts) (range_with_len 0 (length hosts))

-- The objects of the blocks in number order, where these are the hosts of each service block: the hosts, and
-- then the services.
abbrev pub AreObjectsOf : List Block → (hosts : List (List ℕ)) → List Object → Type 0
AreObjectsOf blocks hosts objects =
    AllZip (IsObjectOf blocks) (host_origins blocks ++ service_origins blocks hosts) objects
