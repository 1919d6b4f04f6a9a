-- What is written of an object's attempts: of each its filters, and whom it goes to.
use Rattle.std.specs.Prelude.{ℕ, Bool, ◌||◌, ◌==◌, nat_lt, List, [], ◌++◌, is_some, length, slice_get, Option, None, Some, if◌then◌else◌}
use Rattle.due_model.specs.declared.config.Config.{Config}
use Rattle.due_model.specs.declared.config.ContactId.{ContactId}
use Rattle.due_model.specs.declared.notice.Notice.{Notice}
use Rattle.due_model.specs.declared.notice.Suppression.{Suppression}
use Rattle.due_model.specs.declared.zone.Zone.{Zone}
use Rattle.messages.specs.declared.entries.Entry.TheVariants.{Sent, Withheld}
use Rattle.line_forms.specs.declared.report_line.ReportLine.{ReportLine}
use Rattle.line_forms.specs.declared.report_line.ReportLine.TheVariants.{Decided, Refused}
use Rattle.line_forms.specs.Json.{json_text}
use Rattle.who_missed.specs.declared.forms.RowForm.{RowForm}
use Rattle.who_missed.specs.Forms.{is_coloured, is_json}
use Rattle.why_told.specs.declared.attempts.Open.{Open}
use Rattle.why_told.specs.declared.teller.Asked.{Asked}
use Rattle.why_told.specs.declared.text.Attempt.{Attempt}
use Rattle.why_told.specs.Attempts.{goes_on, has_event}
use Rattle.why_told.specs.Missing.{missing_of}
use Rattle.why_told.specs.Nothing.{nothing_text}
use Rattle.why_told.specs.Places.{object_place, place_at}
use Rattle.why_told.specs.Rows.{head_text, more_row, refused_of, stopped_text, told_of}
use Rattle.filter_values.specs.Tried.{tried_json}
use Rattle.filter_values.specs.Values.{filter_count, passed_text, place_of}

-- ---- how what is open ends

-- How a row of what a filter stopped went on after its first, if it did. As JSON each is written by itself.
abbrev pub rest_of : RowForm → Zone → (more : ℕ) → Option Suppression → List ℕ
rest_of form zone more None = []
rest_of form zone more (Some s) =
    if more == 0 || is_json form then [] else more_row zone s.moment more

unfoldable pub close_text : Asked → Config → Zone → Open → List ℕ
close_text asked c zone current =
    rest_of asked.form zone current.more current.stopped
    ++ missing_of asked c current.met (slice_get current.met 0)

-- something is open: it is once there was an attempt
abbrev pub is_open : Open → Bool
is_open current = is_some current.stopped || nat_lt 0 (length current.met)

-- how all of it ends, given the last line of the object before the span
abbrev pub ending_text : Asked → Config → Zone → Option ReportLine → Open → List ℕ
ending_text asked c zone before current =
    if is_open current then close_text asked c zone current else nothing_text asked zone before

-- ---- what a filter of the object stops

-- its filters, and the one that stopped it
unfoldable pub stop_rows : (coloured : Bool) → (places : List (List ℕ)) → Config → Zone → Suppression → List ℕ
stop_rows coloured places c zone s =
    head_text zone s.moment s.kind s.state 0 ++ passed_text c s.object.0 (place_of c.choices s.filter)
    ++ stopped_text coloured places c s

-- as JSON: its filters, and the line of the report
unfoldable pub stop_json : (places : List (List ℕ)) → Config → Zone → Suppression → List ℕ
stop_json places c zone s =
    tried_json c s.event s.object.0 (place_of c.choices s.filter) (Some s.filter)
    (place_at places (object_place s.filter))
    ++ json_text c zone (Decided (Withheld s))

abbrev pub new_stop_text : Asked → Config → Zone → Suppression → List ℕ
new_stop_text asked c zone s =
    if is_json asked.form then stop_json asked.places.now c zone s
    else stop_rows (is_coloured asked.form) asked.places.now c zone s

-- one that goes on with the row that is open: its number alone is written of it, when the row ends
abbrev pub again_text : Asked → Config → Zone → Suppression → List ℕ
again_text asked c zone s = if is_json asked.form then stop_json asked.places.now c zone s else []

abbrev pub stop_text : Asked → Config → Zone → Open → Suppression → List ℕ
stop_text asked c zone current s =
    if goes_on current s then again_text asked c zone s
    else close_text asked c zone current ++ new_stop_text asked c zone s

-- ---- an attempt that goes out

-- what a line of it says of it
abbrev pub sent_attempt : Notice → Attempt
sent_attempt n = record {
  event = n.event;
  object = n.object;
  moment = n.moment;
  kind = n.kind;
  state = n.state;
  number = n.number;
}

abbrev pub withheld_attempt : Suppression → Attempt
withheld_attempt s = record {
  event = s.event;
  object = s.object;
  moment = s.moment;
  kind = s.kind;
  state = s.state;
  number = s.number;
}

-- all filters of the object passed
unfoldable pub out_rows : Config → Zone → Attempt → List ℕ
out_rows c zone a =
    head_text zone a.moment a.kind a.state a.number ++ passed_text c a.object.0 (filter_count c.choices)

abbrev pub out_text : RowForm → Config → Zone → Attempt → List ℕ
out_text form c zone a =
    if is_json form then tried_json c a.event a.object.0 (filter_count c.choices) None []
    else out_rows c zone a

-- how it begins, where it isn't open
abbrev pub begin_text : Asked → Config → Zone → Open → Attempt → List ℕ
begin_text asked c zone current a =
    if has_event current a.event then []
    else close_text asked c zone current ++ out_text asked.form c zone a

-- ---- what a line adds

abbrev pub withheld_text : Asked → Config → Zone → Open → Suppression → Option ContactId → List ℕ
withheld_text asked c zone current s None = stop_text asked c zone current s
withheld_text asked c zone current s (Some contact) =
    begin_text asked c zone current (withheld_attempt s) ++ refused_of asked c zone s contact.0

abbrev pub sent_text : Asked → Config → Zone → Open → Notice → List ℕ
sent_text asked c zone current n =
    begin_text asked c zone current (sent_attempt n) ++ told_of asked c zone n

abbrev pub line_text : Asked → Config → Zone → Open → ReportLine → List ℕ
line_text asked c zone current (Decided (Sent n)) = sent_text asked c zone current n
line_text asked c zone current (Decided (Withheld s)) =
    withheld_text asked c zone current s s.contact
line_text asked c zone current (Refused refused) = []
