-- A line of a report as an object of JSON, on one line.
use Rattle.std.specs.Prelude.{ℕ, ◌+◌, ◌/◌, ◌%◌, ◌==◌, ◌||◌, nat_lt, List, [], ◌∷◌, ◌++◌, codes, decimal, flat_map, Option, None, Some, if◌then◌else◌}
use Rattle.due_model.specs.declared.config.Config.{Config}
use Rattle.due_model.specs.declared.config.ContactId.{ContactId}
use Rattle.due_model.specs.declared.notice.Kind.{Kind}
use Rattle.due_model.specs.declared.notice.Notice.{Notice}
use Rattle.due_model.specs.declared.notice.Suppression.{Suppression}
use Rattle.due_model.specs.declared.state.State.{State}
use Rattle.due_model.specs.declared.zone.Zone.{Zone}
use Rattle.event_feed.specs.declared.fault.RefusedLine.{RefusedLine}
use Rattle.event_feed.specs.claims.Fault.{fault_name}
use Rattle.local_text.specs.Text.{iso_text}
use Rattle.messages.specs.declared.entries.Entry.TheVariants.{Sent, Withheld}
use Rattle.notice_text.specs.claims.Names.{filter_name, kind_name, state_name}
use Rattle.notice_text.specs.claims.Texts.{contact_text, lane_text, object_text}
use Rattle.line_forms.specs.declared.report_line.ReportLine.{ReportLine}
use Rattle.line_forms.specs.declared.report_line.ReportLine.TheVariants.{Decided, Refused}

-- ---- strings

-- a hexadecimal digit
abbrev pub hex : ℕ → ℕ
hex digit = if nat_lt digit 10 then 48 + digit else 87 + digit

-- a byte of a string: a quote and a backslash come after a backslash, a control character is \u00 and its digits
unfoldable pub escaped : ℕ → List ℕ
escaped byte =
    if (byte == 34) || (byte == 92) then 92 ∷ byte ∷ []
    else if nat_lt byte 32 then 92 ∷ 117 ∷ 48 ∷ 48 ∷ hex (byte / 16) ∷ hex (byte % 16) ∷ []
    else byte ∷ []

-- bytes as a string, between quotes
unfoldable pub string_json : List ℕ → List ℕ
string_json bytes = 34 ∷ flat_map escaped bytes ++ 34 ∷ []

-- a name that needs no escape, between quotes
unfoldable pub quoted : List ℕ → List ℕ
quoted name = 34 ∷ name ++ 34 ∷ []

-- ---- members

-- what comes before the value of a member that isn't the first: a comma, its name and a colon
unfoldable pub member : List ℕ → List ℕ
member name = codes "," ++ quoted name ++ codes ":"

-- the number of a notice; null where there is none
abbrev pub number_json : ℕ → List ℕ
number_json n = if n == 0 then codes "null" else decimal n

-- a line begins with its letter
unfoldable pub letter_json : ℕ → List ℕ
letter_json letter = 123 ∷ quoted (codes "letter") ++ 58 ∷ 34 ∷ letter ∷ 34 ∷ []

unfoldable pub event_json : ℕ → List ℕ
event_json event = member (codes "event") ++ decimal event

-- a moment: in seconds since the epoch, and as the zone's clock shows it
unfoldable pub moment_json : Zone → ℕ → List ℕ
moment_json zone moment =
    member (codes "moment") ++ decimal moment
    ++ member (codes "local") ++ 34 ∷ iso_text zone moment ++ 34 ∷ []

unfoldable pub object_json : Config → ℕ → List ℕ
object_json c o = member (codes "object") ++ string_json (object_text c o)

unfoldable pub condition_json : Kind → State → List ℕ
condition_json kind state =
    member (codes "kind") ++ quoted (kind_name kind)
    ++ member (codes "state") ++ quoted (state_name state)

unfoldable pub contact_json : Config → (number contact : ℕ) → List ℕ
contact_json c number contact =
    member (codes "number") ++ number_json number
    ++ member (codes "contact") ++ string_json (contact_text c contact)

unfoldable pub command_json : Config → ℕ → List ℕ
command_json c lane = member (codes "command") ++ string_json (lane_text c lane)

-- the last member, and the end of the line
unfoldable pub last_json : (name value : List ℕ) → List ℕ
last_json name value = member name ++ quoted value ++ 125 ∷ 10 ∷ []

-- ---- lines

unfoldable pub notice_json : Config → Zone → Notice → List ℕ
notice_json c zone n =
    letter_json 78 ++ event_json n.event ++ moment_json zone n.moment
    ++ object_json c n.object.0 ++ condition_json n.kind n.state
    ++ contact_json c n.number n.contact.0 ++ command_json c n.lane.0 ++ 125 ∷ 10 ∷ []

-- what the lines of suppressions have in common
unfoldable pub withheld_json : Config → Zone → Suppression → List ℕ
withheld_json c zone s =
    event_json s.event ++ moment_json zone s.moment ++ object_json c s.object.0
    ++ condition_json s.kind s.state

-- what an object's filter stopped
unfoldable pub stopped_json : Config → Zone → Suppression → List ℕ
stopped_json c zone s =
    letter_json 83 ++ withheld_json c zone s ++ last_json (codes "filter") (filter_name s.filter)

-- a contact that was refused
unfoldable pub refused_contact_json : Config → Zone → Suppression → ContactId → List ℕ
refused_contact_json c zone s contact =
    letter_json 67 ++ withheld_json c zone s ++ contact_json c s.number contact.0
    ++ last_json (codes "filter") (filter_name s.filter)

abbrev pub suppression_json : Config → Zone → Suppression → Option ContactId → List ℕ
suppression_json c zone s None = stopped_json c zone s
suppression_json c zone s (Some contact) = refused_contact_json c zone s contact

-- a refused line of the feed
unfoldable pub refused_json : RefusedLine → List ℕ
refused_json refused =
    letter_json 82 ++ member (codes "line") ++ decimal refused.line
    ++ last_json (codes "fault") (fault_name refused.fault)

abbrev pub json_text : Config → Zone → ReportLine → List ℕ
json_text c zone (Decided (Sent n)) = notice_json c zone n
json_text c zone (Decided (Withheld s)) = suppression_json c zone s s.contact
json_text c zone (Refused refused) = refused_json refused
