-- Of which directives it is asked where their values stand.
use Rattle.std.specs.Prelude.{◌≡◌, ℕ, Bool, ◌==◌, ◌||◌, List, [], ◌∷◌, ◌++◌, flat_map, codes, is_some, map, Option, None, Some, if◌then◌else◌}
use Rattle.std.specs.List.{range_with_len}
use Rattle.std.specs.Option.{option_map}
use Rattle.object_groups.specs.claims.Objects.{objects_in}
use Rattle.object_inheritance.specs.claims.Inherited.{value}
use Rattle.object_reader.specs.declared.block.Block.{Block}
use Rattle.object_reader.specs.declared.block.BlockKind.TheVariants.{Contact}
use Rattle.value_places.specs.declared.origins.Origin.{Origin}
use Rattle.value_places.specs.declared.questions.Rights.{Rights}

-- a directive, and the place of the block of which it is asked
pub record Question : Type 0 where
  pub directive : List ℕ
  pub place : ℕ

-- ---- of an object

-- The directive by which the filter goes that is tried after so many of the object's; none where it goes by none.
abbrev pub directive_at : (filter : ℕ) → Option (List ℕ)
directive_at filter = if filter == 1 then Some (codes "notifications_enabled")
    else if filter == 4 then Some (codes "notification_options")
    else if filter == 6 then Some (codes "notification_period")
    else if filter == 9 then Some (codes "first_notification_delay")
    else if filter == 10 then Some (codes "notification_interval")
    else None

-- whether a service takes the directive from its host, where its own block lacks it: the period and the interval
abbrev pub is_of_host : (filter : ℕ) → Bool
is_of_host filter = filter == 6 || filter == 10

-- the place of the block that counts, where the first doesn't have the directive
abbrev pub place_from : List Block → (directive : List ℕ) → (own other : ℕ) → ℕ
place_from blocks directive own other = if is_some (value blocks directive own) then own else other

-- the other block that counts
abbrev pub other_place : Origin → (filter : ℕ) → ℕ
other_place origin filter = if is_of_host filter then origin.host else origin.place

abbrev pub question_at : List Block → Origin → (filter : ℕ) → Option Question
question_at blocks origin filter = option_map
    (λ directive. record
    { directive = directive; place = place_from blocks directive origin.place (other_place origin filter) })
    (directive_at filter)

-- one for each of its eleven filters, in the order in which these are tried
abbrev pub object_questions : List Block → Origin → List (Option Question)
object_questions blocks origin = map (question_at blocks origin) (range_with_len 0 11)

-- ---- of contacts

-- the directives of a contact, for services and for hosts: whether it is notified, of what, and when
abbrev pub enabled_directive : (service : Bool) → List ℕ
enabled_directive service =
    if service then codes "service_notifications_enabled" else codes "host_notifications_enabled"

abbrev pub options_directive : (service : Bool) → List ℕ
options_directive service =
    if service then codes "service_notification_options" else codes "host_notification_options"

abbrev pub period_directive : (service : Bool) → List ℕ
period_directive service =
    if service then codes "service_notification_period" else codes "host_notification_period"

-- what the blocks have for them
pub record AreRights (blocks : List Block) (rights : Rights) : Type 0 where
  pub enabled : rights.enabled ≡ record { blocks = blocks; directive = enabled_directive rights.service }
  pub options : rights.options ≡ record { blocks = blocks; directive = options_directive rights.service }
  pub period : rights.period ≡ record { blocks = blocks; directive = period_directive rights.service }

-- three of the contact whose block stands at the place
abbrev pub contact_questions : (service : Bool) → (place : ℕ) → List (Option Question)
contact_questions service place =
    Some (record { directive = enabled_directive service; place = place })
    ∷ Some (record { directive = options_directive service; place = place })
    ∷ Some (record { directive = period_directive service; place = place }) ∷ []

-- those of the contacts whose blocks stand at these places
abbrev pub contacts_questions : (service : Bool) → (places : List ℕ) → List (Option Question)
contacts_questions service places = flat_map (contact_questions service) places

-- ---- all of them

-- first those of the object, and then of each contact, by its number
abbrev pub questions : List Block → Origin → List (Option Question)
questions blocks origin = object_questions blocks origin
    ++ contacts_questions origin.is_service (objects_in blocks Contact)
