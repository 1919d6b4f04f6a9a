-- The escalations that blocks give (chapters "Notification Escalations" and "Object Definitions").
use Rattle.std.specs.Prelude.{◌≡◌, ℕ, Bool, true, false, List, [], length, map, codes, Some, slice_get, slice_index_or, unwrap_or, if◌then◌else◌}
use Rattle.std.specs.List.{AllZip, flat_map, range_with_len}
use Rattle.due_model.specs.claims.Objects.{object_id}
use Rattle.due_model.specs.declared.config.ContactId.{ContactId}
use Rattle.due_model.specs.declared.config.Escalation.{Escalation}
use Rattle.due_model.specs.declared.config.Object.{Object}
use Rattle.object_groups.specs.claims.Objects.{is_object_at, names_in}
use Rattle.object_listing.specs.claims.Listing.{AreThose, contact_directives, gives_neither, IsListed}
use Rattle.object_reader.specs.declared.block.Block.{Block}
use Rattle.object_reader.specs.declared.block.BlockKind.TheVariants.{HostEscalation, TimePeriod}
use Rattle.object_listing.specs.claims.Readings.{letters_at, number_at, own_number, own_period}
use Rattle.object_values.specs.declared.options.OptionKind.{OptionKind}
use Rattle.object_values.specs.declared.options.OptionKind.TheVariants as lists

-- the kind of the option list of the escalation at the place
abbrev pub option_kind : List Block → (place : ℕ) → OptionKind
option_kind blocks place =
    if is_object_at blocks HostEscalation place then lists.HostEscalation
    else lists.ServiceEscalation

-- the contacts of the object, where the block at the place gives none, and else those that it lists
abbrev pub AreTold : (gives_none : Bool) → List Block → (place : ℕ) → (object : Object)
    → List ContactId → Type 0
AreTold true blocks place object contacts = contacts ≡ object.contacts
AreTold false blocks place object contacts =
    AreThose (IsListed blocks contact_directives place) (map (λ contact. contact.0) contacts)

-- The contacts of an escalation: those that the block at the place lists, and the object's, where it gives neither
-- contacts nor contact groups.
abbrev pub AreContactsOf : List Block → (place : ℕ) → (object : Object) → List ContactId → Type 0
AreContactsOf blocks place object contacts =
    AreTold (gives_neither blocks contact_directives place) blocks place object contacts

-- The escalation of the object of that number that the block at the place gives: an interval or a period that the
-- block lacks is the object's.
pub record IsEscalationOf (blocks : List Block) (place number : ℕ) (object : Object)
    (escalation : Escalation) : Type 0 where
  pub object_is : escalation.object ≡ object_id number
  pub first : escalation.first ≡ number_at blocks (codes "first_notification") 0 place
  pub last : escalation.last ≡ number_at blocks (codes "last_notification") 0 place
  pub interval : escalation.interval
      ≡ unwrap_or (own_number blocks (codes "notification_interval") place) object.interval
  pub period : escalation.period
      ≡ unwrap_or (own_period (names_in blocks TimePeriod) blocks (codes "escalation_period") place)
      object.period
  pub options : escalation.options
      ≡ letters_at blocks (codes "escalation_options") (option_kind blocks place) place
  pub contacts : AreContactsOf blocks place object escalation.contacts

-- where an escalation comes from: the place of its block, and the number of its object
pub record Origin : Type 0 where
  pub place : ℕ
  pub number : ℕ

-- the escalation that comes from there, where these are the objects
abbrev pub ComesFrom : List Block → (objects : List Object) → Origin → Escalation → Type 0
ComesFrom blocks objects origin escalation = (object : Object)
    × (slice_get objects origin.number ≡ Some object)
    × IsEscalationOf blocks origin.place origin.number object escalation

-- those of the block at the place, where it speaks of the objects of these numbers
abbrev pub origins_at : (place : ℕ) → (numbers : List ℕ) → List Origin
origins_at place numbers = map (λ number. record { place = place; number = number }) numbers

-- those of the blocks below the place, where these are the objects of which each speaks: block by block, and within
-- a block object by object
abbrev pub origins_below : (spoken : List (List ℕ)) → (place : ℕ) → List Origin
origins_below spoken place =
    flat_map (λ at. origins_at at (slice_index_or spoken at [])) (range_with_len 0 place)

-- The escalations of the blocks, where these are the objects, and those of which each block speaks.
abbrev pub AreEntriesOf : List Block → (objects : List Object) → (spoken : List (List ℕ))
    → List Escalation → Type 0
AreEntriesOf blocks objects spoken escalations =
    AllZip (ComesFrom blocks objects) (origins_below spoken (length spoken)) escalations
