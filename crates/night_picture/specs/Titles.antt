-- The titles of marks, and the colours of a picture.
use Rattle.std.specs.Prelude.{ℕ, ◌%◌, ◌==◌, List, [], ◌++◌, codes, decimal, Option, None, Some, if◌then◌else◌}
use Rattle.due_model.specs.declared.config.Config.{Config}
use Rattle.due_model.specs.declared.config.ContactId.{ContactId}
use Rattle.due_model.specs.declared.notice.Kind.{Kind}
use Rattle.due_model.specs.declared.notice.Notice.{Notice}
use Rattle.due_model.specs.declared.notice.Suppression.{Suppression}
use Rattle.due_model.specs.declared.state.State.{State}
use Rattle.due_model.specs.declared.state.State.TheVariants.{Pending, Up, Down, Unreachable, Fine, Warning, Unknown, Critical}
use Rattle.due_model.specs.declared.zone.Zone.{Zone}
use Rattle.local_text.specs.Text.{iso_text}
use Rattle.notice_text.specs.claims.Names.{filter_name, kind_name, state_name}
use Rattle.notice_text.specs.claims.Texts.{contact_text, lane_text}
use Rattle.night_picture.specs.Shapes.{escaped_text}

-- ---- colours

abbrev pub state_colour : State → List ℕ
state_colour Pending = codes "#dddddd"
state_colour Up = codes "#2e9e4f"
state_colour Down = codes "#d0342c"
state_colour Unreachable = codes "#e07b39"
state_colour Fine = codes "#2e9e4f"
state_colour Warning = codes "#e6b800"
state_colour Unknown = codes "#e07b39"
state_colour Critical = codes "#d0342c"

-- that of a contact, by its number: there are eight
unfoldable pub contact_colour : (k : ℕ) → List ℕ
contact_colour k =
    if k % 8 == 0 then codes "#1f4e9e"
    else if k % 8 == 1 then codes "#d9480f"
    else if k % 8 == 2 then codes "#0b7a75"
    else if k % 8 == 3 then codes "#9c36b5"
    else if k % 8 == 4 then codes "#5c4033"
    else if k % 8 == 5 then codes "#111111"
    else if k % 8 == 6 then codes "#c2255c"
    else codes "#4dabf7"

-- ---- titles

-- when something is, with the clock's offset from UTC
unfoldable pub time_text : Zone → (moment : ℕ) → List ℕ
time_text zone moment = iso_text zone moment ++ codes " "

-- what it is of
unfoldable pub condition_text : Kind → State → List ℕ
condition_text kind state = kind_name kind ++ codes " " ++ state_name state

-- the number of the notice, where it has one
unfoldable pub number_part : (number : ℕ) → List ℕ
number_part number = if number == 0 then [] else codes ", notice " ++ decimal number

-- whom it goes to, and how
unfoldable pub receiver_text : Config → Notice → List ℕ
receiver_text c n =
    codes ", to " ++ escaped_text (contact_text c n.contact.0) ++ codes " by "
    ++ escaped_text (lane_text c n.lane.0)

unfoldable pub told_title : Config → Zone → Notice → List ℕ
told_title c zone n =
    time_text zone n.moment ++ condition_text n.kind n.state ++ number_part n.number
    ++ receiver_text c n

-- the filter that stopped it, and when
unfoldable pub stopped_front : Zone → Suppression → List ℕ
stopped_front zone s = filter_name s.filter ++ codes ": " ++ time_text zone s.moment

-- for which contact, if it is a contact's filter
unfoldable pub for_contact : Config → Option ContactId → List ℕ
for_contact c None = []
for_contact c (Some contact) = codes ", for " ++ escaped_text (contact_text c contact.0)

unfoldable pub stopped_title : Config → Zone → Suppression → List ℕ
stopped_title c zone s =
    stopped_front zone s ++ condition_text s.kind s.state ++ number_part s.number
    ++ for_contact c s.contact
