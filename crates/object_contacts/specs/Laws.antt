-- Laws of the contacts of blocks, of any blocks.
use Rattle.std.specs.Prelude.{◌≡◌, ℕ, Bool, true, not, ◌==◌, List, [], map, codes, unwrap_or, Option, None}
use Rattle.std.specs.Option.{option_and_then, option_map, option_map_or}
use Rattle.due_model.specs.declared.config.Contact as model
use Rattle.due_model.specs.declared.config.PeriodId.{PeriodId}
use Rattle.due_model.specs.declared.options.OptionLetters.{OptionLetters}
use Rattle.object_contacts.specs.claims.Contacts.{IsContactOf, letters_unlisted}
use Rattle.object_contacts.specs.claims.Lanes.{AreLanes, NamesLane}
use Rattle.object_groups.specs.claims.Objects.{names_in}
use Rattle.object_inheritance.specs.claims.Inherited.{name_of, own, own_entries}
use Rattle.object_reader.specs.declared.block.Block.{Block}
use Rattle.object_reader.specs.declared.block.BlockKind.TheVariants.{Command, TimePeriod}
use Rattle.object_listing.specs.Plain.{plain_letters, plain_list, plain_number, plain_period}
use Rattle.object_values.specs.claims.Options.{options_in}
use Rattle.object_values.specs.claims.Values.{number_in}
use Rattle.object_values.specs.declared.options.OptionKind.{OptionKind}
use Rattle.object_values.specs.declared.options.OptionKind.TheVariants as lists

-- ---- lanes of the commands that the block gives itself

-- the lanes of the commands that its list names; no lane where it gives no list
abbrev pub NamesPlainLane : List Block → (lane_commands : List ℕ) → (directive : List ℕ)
    → (place : ℕ) → (lane : ℕ) → Type 0
NamesPlainLane blocks lane_commands directive place =
    NamesLane (names_in blocks Command) lane_commands
    (unwrap_or (plain_list blocks directive place) [])

-- ---- the law

-- The contact of a plain block: without templates, each setting is what the block gives itself, or the
-- default, and its lanes are those of the commands that it names. What groups it is in plays no part.
pub record IsPlainContact (daemons : Bool) (blocks : List Block) (lane_commands : List ℕ)
    (place : ℕ) (contact : model.Contact) : Type 0 where
  pub name : contact.name ≡ unwrap_or (own blocks (codes "contact_name") place) []
  pub host_enabled : contact.hosts.enabled ≡ option_map_or (λ number. not (number == 0))
      (plain_number blocks (codes "host_notifications_enabled") place) true
  pub host_options : contact.hosts.options ≡ unwrap_or
      (plain_letters blocks (codes "host_notification_options") lists.Host place)
      (letters_unlisted daemons)
  pub host_period : contact.hosts.period
      ≡ unwrap_or (plain_period blocks (codes "host_notification_period") place) None
  pub host_lanes : AreLanes
      (NamesPlainLane blocks lane_commands (codes "host_notification_commands") place)
      (map (λ lane. lane.0) contact.hosts.lanes)
  pub service_enabled : contact.services.enabled ≡ option_map_or (λ number. not (number == 0))
      (plain_number blocks (codes "service_notifications_enabled") place) true
  pub service_options : contact.services.options ≡ unwrap_or
      (plain_letters blocks (codes "service_notification_options") lists.Service place)
      (letters_unlisted daemons)
  pub service_period : contact.services.period
      ≡ unwrap_or (plain_period blocks (codes "service_notification_period") place) None
  pub service_lanes : AreLanes
      (NamesPlainLane blocks lane_commands (codes "service_notification_commands") place)
      (map (λ lane. lane.0) contact.services.lanes)

-- Without templates, a contact block gives what plain blocks give.
abbrev pub PlainContactHasItsOwn : Type 0
PlainContactHasItsOwn =
    (daemons : Bool) (blocks : List Block) (lane_commands : List ℕ) (place : ℕ)
    (contact : model.Contact) → own blocks (codes "use") place ≡ None
    → IsContactOf daemons blocks lane_commands place contact
    → IsPlainContact daemons blocks lane_commands place contact
