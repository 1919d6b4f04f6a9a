-- What an escalation block gives, by itself or by its templates, and how that is kept and taken (chapter
-- "Notification Escalations").
use Rattle.std.specs.Prelude.{◌≡◌, ℕ, List, ◌++◌, map, codes, unwrap_or, Some, slice_get, if◌then◌else◌}
use Rattle.std.specs.List.{AllZip}
use Rattle.due_model.specs.claims.Objects.{object_id}
use Rattle.due_model.specs.declared.config.ContactId.{ContactId}
use Rattle.due_model.specs.declared.config.Escalation.{Escalation}
use Rattle.due_model.specs.declared.config.Object.{Object}
use Rattle.object_groups.specs.claims.Objects.{is_object, names_in}
use Rattle.object_listing.specs.claims.Listing.{AreThose, contact_directives, gives_neither, IsListed}
use Rattle.object_reader.specs.declared.block.Block.{Block}
use Rattle.object_reader.specs.declared.block.BlockKind.TheVariants.{HostEscalation, TimePeriod}
use Rattle.object_listing.specs.claims.Readings.{letters_at, number_at, own_number, own_period}
use Rattle.object_values.specs.declared.options.OptionKind.{OptionKind}
use Rattle.object_values.specs.declared.options.OptionKind.TheVariants as lists
use Rattle.object_escalations.specs.declared.given.Filters.{Filters}
use Rattle.object_escalations.specs.declared.given.Given.{Given}
use Rattle.object_escalations.specs.declared.given.Times.{Times}

-- ---- what all blocks have

-- for the directives that are numbers
pub record AreTimes (blocks : List Block) (times : Times) : Type 0 where
  pub firsts_are :
      times.firsts ≡ record { blocks = blocks; directive = codes "first_notification" }
  pub lasts_are : times.lasts ≡ record { blocks = blocks; directive = codes "last_notification" }
  pub intervals_are :
      times.intervals ≡ record { blocks = blocks; directive = codes "notification_interval" }

-- for those that say when an escalation holds, and of which states
pub record AreFilters (blocks : List Block) (filters : Filters) : Type 0 where
  pub periods_are :
      filters.periods ≡ record { blocks = blocks; directive = codes "escalation_period" }
  pub options_are :
      filters.options ≡ record { blocks = blocks; directive = codes "escalation_options" }

-- and for those that say who is told
pub record AreTables (blocks : List Block) (contacts : List Block) (times : Times)
    (filters : Filters) : Type 0 where
  pub contacts_are : contacts ≡ blocks
  pub times_are : AreTimes blocks times
  pub filters_are : AreFilters blocks filters

-- ---- what one block gives

-- the kind of the option list of an escalation block
abbrev pub list_kind : Block → OptionKind
list_kind block =
    if is_object HostEscalation block then lists.HostEscalation else lists.ServiceEscalation

-- what the block at the place gives, where its option list is of that kind
pub record IsGiven (blocks : List Block) (kind : OptionKind) (place : ℕ)
    (given : Given) : Type 0 where
  pub first : given.first ≡ number_at blocks (codes "first_notification") 0 place
  pub last : given.last ≡ number_at blocks (codes "last_notification") 0 place
  pub interval : given.interval ≡ own_number blocks (codes "notification_interval") place
  pub period : given.period
      ≡ own_period (names_in blocks TimePeriod) blocks (codes "escalation_period") place
  pub options : given.options ≡ letters_at blocks (codes "escalation_options") kind place
  pub lacks : given.lacks_contacts ≡ gives_neither blocks contact_directives place
  pub contacts : AreThose (IsListed blocks contact_directives place)
      (map (λ contact. contact.0) given.contacts.now)

-- ---- what is taken of it

-- the contacts, of the block or of the object
abbrev pub contacts_of : Given → Object → List ContactId
contacts_of given object =
    if given.lacks_contacts then object.contacts else given.contacts.now

-- the escalation of the object of that number, which takes from the object what the block lacks
pub record IsTaken (given : Given) (number : ℕ) (object : Object)
    (escalation : Escalation) : Type 0 where
  pub object_is : escalation.object ≡ object_id number
  pub first : escalation.first ≡ given.first
  pub last : escalation.last ≡ given.last
  pub interval : escalation.interval ≡ unwrap_or given.interval object.interval
  pub period : escalation.period ≡ unwrap_or given.period object.period
  pub options : escalation.options ≡ given.options
  pub contacts : escalation.contacts ≡ contacts_of given object

-- that of one of these objects
abbrev pub IsTakenOf : Given → (objects : List Object) → (number : ℕ) → Escalation → Type 0
IsTakenOf given objects number escalation = (object : Object)
    × (slice_get objects number ≡ Some object) × IsTaken given number object escalation

-- the escalations of the objects of these numbers came
pub record AddsTaken (given : Given) (objects : List Object) (numbers : List ℕ)
    (old new : List Escalation) : Type 0 where
  pub added : List Escalation
  pub are : new ≡ old ++ added
  pub all : AllZip (IsTakenOf given objects) numbers added
