-- Who isn't told of an object up to a moment though the configuration names them, why, and when they are told later on.
use Rattle.std.specs.Prelude.{ℕ, ◌+◌, Bool, true, false, not, ◌&&◌, ◌||◌, ◌==◌, nat_le, nat_lt, List, [], ◌∷◌, ◌++◌, codes, decimal, find, flat_map, is_some, length, slice_get, Option, None, Some, if◌then◌else◌}
use Rattle.std.specs.List.{list_any, range_with_len}
use Rattle.std.specs.Option.{option_map_or}
use Rattle.due_model.specs.declared.config.Config.{Config}
use Rattle.due_model.specs.declared.config.Escalation.{Escalation}
use Rattle.due_model.specs.declared.config.ObjectId.{ObjectId}
use Rattle.due_model.specs.declared.notice.Kind.{Kind}
use Rattle.due_model.specs.declared.notice.Kind.TheVariants as kind
use Rattle.due_model.specs.declared.zone.Zone.{Zone}
use Rattle.due_model.specs.ByObject.{places_of}
use Rattle.due_model.specs.claims.Receivers.{rights_for}
use Rattle.due_model.specs.claims.Escalations.{has_contact}
use Rattle.due_model.specs.claims.Objects.{object_named}
use Rattle.messages.specs.declared.entries.Entry.TheVariants.{Sent, Withheld}
use Rattle.line_forms.specs.declared.report_line.ReportLine.{ReportLine}
use Rattle.line_forms.specs.declared.report_line.ReportLine.TheVariants.{Decided, Refused}
use Rattle.line_forms.specs.Json.{number_json}
use Rattle.local_text.specs.Text.{iso_text, local_text}
use Rattle.notice_text.specs.claims.Names.{filter_name}
use Rattle.notice_text.specs.claims.Texts.{contact_text, number_text}
use Rattle.pretty_lines.specs.Columns.{paint}
use Rattle.who_missed.specs.declared.forms.RowForm.{RowForm}
use Rattle.who_missed.specs.declared.forms.RowForm.TheVariants.{Json, Plain, Pretty}
use Rattle.who_missed.specs.Forms.{reason_json, row_end}

-- ---- the lines of a report

-- the line is of the object, and of a moment up to this one
abbrev pub is_within : (o until : ℕ) → ReportLine → Bool
is_within o until (Decided (Sent n)) = (n.object.0 == o) && nat_le n.moment until
is_within o until (Decided (Withheld s)) = (s.object.0 == o) && nat_le s.moment until
is_within o until (Refused refused) = false

-- it is a notice of the object to contact k, after that moment
abbrev pub is_later : (o k until : ℕ) → ReportLine → Bool
is_later o k until (Decided (Sent n)) =
    (n.object.0 == o) && (n.contact.0 == k) && nat_lt until n.moment
is_later o k until line = false

-- it is a notice to contact k
abbrev pub tells : (k : ℕ) → ReportLine → Bool
tells k (Decided (Sent n)) = n.contact.0 == k
tells k line = false

-- a filter of contact k stopped it
abbrev pub refuses : (k : ℕ) → ReportLine → Bool
refuses k (Decided (Withheld s)) = option_map_or (λ contact. contact.0 == k) s.contact false
refuses k line = false

-- a filter of the object stopped it
abbrev pub stops : ReportLine → Bool
stops (Decided (Withheld s)) = not (is_some s.contact)
stops line = false

-- A notice of this kind and number is matched with the escalations that begin with this one, or an earlier one: that of a problem
-- by its own number, a recovery by the number before, that of the last notice.
abbrev pub counts : Kind → (first number : ℕ) → Bool
counts kind.Problem first number = nat_le first number
counts kind.Recovery first number = nat_lt first number
counts kind.FlappingStart first number = false
counts kind.FlappingStop first number = false
counts kind.DowntimeStart first number = false
counts kind.DowntimeEnd first number = false
counts kind.DowntimeCancelled first number = false
counts kind.Acknowledgement first number = false

-- it is of such a notice that passed the filters of the object
abbrev pub comes_to : (first : ℕ) → ReportLine → Bool
comes_to first (Decided (Sent n)) = counts n.kind first n.number
comes_to first (Decided (Withheld s)) = is_some s.contact && counts s.kind first s.number
comes_to first (Refused refused) = false

-- ---- who is named

-- the escalation at this place names contact k
abbrev pub is_named_at : Config → (k place : ℕ) → Bool
is_named_at c k place =
    option_map_or (λ e. has_contact e.contacts k) (slice_get c.escalations place) false

-- it is one of the object's own
abbrev pub is_own : Config → (o k : ℕ) → Bool
is_own c o k =
    option_map_or (λ object. has_contact object.contacts k) (slice_get c.objects o) false

-- The configuration names contact k for the object: it is one of its own, or of an escalation of it.
abbrev pub is_named : Config → (o k : ℕ) → Bool
is_named c o k =
    nat_lt k (length c.contacts)
    && (is_own c o k || list_any (is_named_at c k) (places_of c.escalations o))

-- contact k has a command for such an object
abbrev pub has_command : Config → (o k : ℕ) → Bool
has_command c o k =
    option_map_or
    (λ object.
    option_map_or (λ contact. nat_lt 0 (length (rights_for object contact).lanes))
    (slice_get c.contacts k) false)
    (slice_get c.objects o) false

-- some line up to the moment is a notice to it
abbrev pub is_told : (o k until : ℕ) → List ReportLine → Bool
is_told o k until lines = list_any (λ line. is_within o until line && tells k line) lines

-- ---- why it isn't told

-- something of the object passed its filters up to the moment
abbrev pub goes_out : (o until : ℕ) → List ReportLine → Bool
goes_out o until lines = list_any (λ line. is_within o until line && not (stops line)) lines

-- one that is matched with escalations from this number on did
abbrev pub has_begun : (o until number : ℕ) → List ReportLine → Bool
has_begun o until number lines =
    list_any (λ line. is_within o until line && comes_to number line) lines

-- the object's escalation of this number, counted from 1, begins with such a notice
unfoldable pub begins_text : (number first : ℕ) → (rest : List ℕ) → List ℕ
begins_text number first rest =
    codes "escalation " ++ decimal number ++ codes " begins with notice " ++ decimal first ++ rest

-- What an escalation has to do with it. One that names the contact hasn't begun, or doesn't match; one that doesn't has begun,
-- and takes the place of the object's own contacts.
abbrev pub escalation_text : (named own begun : Bool) → (number first : ℕ) → List ℕ
escalation_text true own false number first = begins_text number first (codes "; ")
escalation_text true own true number first =
    begins_text number first (codes " and doesn't match; ")
escalation_text false true true number first = begins_text number first (codes " without it; ")
escalation_text false own begun number first = []

-- the same of one of the object's escalations, by the lines of a report
abbrev pub escalation_at : Config → (o k until : ℕ) → List ReportLine → (number : ℕ) → Escalation
    → List ℕ
escalation_at c o k until lines number e =
    escalation_text (has_contact e.contacts k) (is_own c o k) (has_begun o until e.first lines)
    number e.first

-- of the one at an index of the object's escalations
abbrev pub escalation_of : Config → (o k until : ℕ) → List ReportLine → (index : ℕ) → List ℕ
escalation_of c o k until lines index =
    option_map_or
    (λ place.
    option_map_or (escalation_at c o k until lines (index + 1)) (slice_get c.escalations place) [])
    (slice_get (places_of c.escalations o) index) []

-- of all of them, in their order
abbrev pub escalations_text : Config → (o k until : ℕ) → List ReportLine → List ℕ
escalations_text c o k until lines =
    flat_map (escalation_of c o k until lines)
    (range_with_len 0 (length (places_of c.escalations o)))

-- the name of the filter of a line
abbrev pub filter_of : ReportLine → List ℕ
filter_of (Decided (Withheld s)) = filter_name s.filter ++ codes "; "
filter_of line = []

-- where nobody is told or refused, and nothing stopped: a notice may have had no receiver; nothing is due to others
abbrev pub silent_text : Config → (o k until : ℕ) → List ReportLine → List ℕ
silent_text c o k until lines =
    if list_any (is_named_at c k) (places_of c.escalations o)
    then escalations_text c o k until lines else codes "nothing is due; "

-- where nothing goes out: the first filter of the object that stopped something, if one did
abbrev pub stop_text : Config → (o k until : ℕ) → List ReportLine → Option ReportLine → List ℕ
stop_text c o k until lines None = silent_text c o k until lines
stop_text c o k until lines (Some line) = filter_of line

-- Why it isn't told up to the moment: the filter of its first refusal. Where it has none, the escalations by which it is no
-- receiver of what goes out; where nothing does, the first filter of the object that stopped something.
abbrev pub reason_text : Config → (o k until : ℕ) → List ReportLine → Option ReportLine → List ℕ
reason_text c o k until lines (Some refused) = filter_of refused
reason_text c o k until lines None =
    if goes_out o until lines then escalations_text c o k until lines
    else stop_text c o k until lines (find (λ line. is_within o until line && stops line) lines)

-- the first notice to it later on, by its moment and number
abbrev pub later_text : Zone → Option ReportLine → List ℕ
later_text zone (Some (Decided (Sent n))) =
    codes "told " ++ local_text zone n.moment ++ codes ", notice " ++ number_text n.number
later_text zone line = codes "not within a week"

-- ---- who is missing

-- it is named, and isn't told up to the moment
abbrev pub is_missed : Config → (o until : ℕ) → List ReportLine → (k : ℕ) → Bool
is_missed c o until lines k = is_named c o k && not (is_told o k until lines)

-- who isn't told
unfoldable pub whom_text : Config → (k : ℕ) → List ℕ
whom_text c k = codes "not told  " ++ contact_text c k ++ codes "  "

-- why not: it has no command for such an object, or that reason
abbrev pub why_text : Config → (o until : ℕ) → List ReportLine → (k : ℕ) → List ℕ
why_text c o until lines k =
    if has_command c o k
    then reason_text c o k until lines
    (find (λ line. is_within o until line && refuses k line) lines)
    else codes "no notification command; "

-- how a row of text begins of a contact that is missing: its colour, and who it is
unfoldable pub missed_front : (coloured : Bool) → Config → (k : ℕ) → List ℕ
missed_front coloured c k = paint coloured (codes "33") ++ whom_text c k

-- such a row: who it is, why, and when it is told later on
unfoldable pub missed_row : (coloured : Bool) → Config → Zone → (o until : ℕ) → List ReportLine
    → (k : ℕ) → List ℕ
missed_row coloured c zone o until lines k =
    missed_front coloured c k ++ why_text c o until lines k
    ++ later_text zone (find (is_later o k until) lines) ++ row_end coloured

-- the first notice to it later on, as members of an object of JSON, and the end of that
unfoldable pub told_json : Zone → (moment : ℕ) → List ℕ
told_json zone moment =
    codes ",\"moment\":" ++ decimal moment ++ codes ",\"local\":\"" ++ iso_text zone moment

unfoldable pub number_end : (number : ℕ) → List ℕ
number_end number = codes "\",\"number\":" ++ number_json number ++ codes "}\n"

abbrev pub later_json : Zone → Option ReportLine → List ℕ
later_json zone (Some (Decided (Sent n))) = told_json zone n.moment ++ number_end n.number
later_json zone line = codes ",\"moment\":null,\"local\":null,\"number\":null}\n"

-- the same as an object of JSON
unfoldable pub missed_json : Config → Zone → (o until : ℕ) → List ReportLine → (k : ℕ) → List ℕ
missed_json c zone o until lines k =
    reason_json (contact_text c k) (why_text c o until lines k)
    ++ later_json zone (find (is_later o k until) lines)

-- in a form
abbrev pub missed_form : RowForm → Config → Zone → (o until : ℕ) → List ReportLine → (k : ℕ) → List ℕ
missed_form Plain c zone o until lines k = missed_row false c zone o until lines k
missed_form (Pretty coloured) c zone o until lines k = missed_row coloured c zone o until lines k
missed_form Json c zone o until lines k = missed_json c zone o until lines k

abbrev pub missed_line : RowForm → Config → Zone → (o until : ℕ) → List ReportLine → (k : ℕ) → List ℕ
missed_line form c zone o until lines k =
    if is_missed c o until lines k then missed_form form c zone o until lines k else []

-- of the first contacts, by their numbers
abbrev pub first_lines : RowForm → Config → Zone → (o until : ℕ) → List ReportLine → (count : ℕ)
    → List ℕ
first_lines form c zone o until lines count =
    flat_map (missed_line form c zone o until lines) (range_with_len 0 count)

-- of all of them: there are no more numbers
unfoldable pub missed_lines : RowForm → Config → Zone → (o until : ℕ) → List ReportLine → List ℕ
missed_lines form c zone o until lines = first_lines form c zone o until lines 65536

-- of the object of that number, if there is one
abbrev pub missed_of : RowForm → Config → Zone → (until : ℕ) → List ReportLine → Option ObjectId
    → List ℕ
missed_of form c zone until lines None = []
missed_of form c zone until lines (Some o) = missed_lines form c zone o.0 until lines

-- of the object of a name
abbrev pub missed_text : RowForm → Config → Zone → (host : List ℕ) → (service : Option (List ℕ))
    → (until : ℕ) → List ReportLine → List ℕ
missed_text form c zone host service until lines =
    missed_of form c zone until lines (object_named c.objects host service)
