-- The rows of an attempt: when it is and of what, whom it goes to, who is refused, and what stopped it.
use Rattle.std.specs.Prelude.{ℕ, Bool, true, ◌==◌, List, [], ◌++◌, codes, decimal, Option, None, Some, if◌then◌else◌}
use Rattle.std.specs.Option.{option_copied}
use Rattle.std.specs.Str.{bytes_eq}
use Rattle.due_model.specs.declared.config.Config.{Config}
use Rattle.due_model.specs.declared.notice.Kind.{Kind}
use Rattle.due_model.specs.declared.notice.Notice.{Notice}
use Rattle.due_model.specs.declared.notice.Suppression.{Suppression}
use Rattle.due_model.specs.declared.state.State.{State}
use Rattle.due_model.specs.declared.zone.Zone.{Zone}
use Rattle.messages.specs.declared.entries.Entry.TheVariants.{Sent, Withheld}
use Rattle.notice_text.specs.claims.Names.{kind_name, state_name}
use Rattle.notice_text.specs.claims.Texts.{contact_text, lane_text}
use Rattle.line_forms.specs.declared.report_line.ReportLine.TheVariants.{Decided}
use Rattle.line_forms.specs.Json.{json_text}
use Rattle.local_text.specs.Text.{local_text}
use Rattle.pretty_lines.specs.Columns.{paint}
use Rattle.who_missed.specs.declared.forms.RowForm.{RowForm}
use Rattle.who_missed.specs.Forms.{is_coloured, is_json, row_end}
use Rattle.why_told.specs.declared.teller.Asked.{Asked}
use Rattle.why_told.specs.Places.{contact_place, object_place, place_text}
use Rattle.filter_values.specs.Values.{contact_filter_text, filter_text}

-- the number of a notice, where it has one
abbrev pub notice_number : ℕ → List ℕ
notice_number number = if number == 0 then [] else codes ", notice " ++ decimal number

-- when it is, and of what
unfoldable pub head_text : Zone → (moment : ℕ) → Kind → State → (number : ℕ) → List ℕ
head_text zone moment kind state number =
    local_text zone moment ++ codes "  " ++ kind_name kind ++ codes " " ++ state_name state
    ++ notice_number number ++ codes "\n"

-- Of a contact something is written where it is the one that is asked for, or none is.
abbrev pub is_asked : Config → (asked : Option (List ℕ)) → (k : ℕ) → Bool
is_asked c None k = true
is_asked c (Some name) k = bytes_eq (contact_text c k) name

-- ---- whom a notice goes to, and by which command

unfoldable pub told_row : Config → Notice → List ℕ
told_row c n =
    codes "    told         " ++ contact_text c n.contact.0 ++ codes "  " ++ lane_text c n.lane.0

unfoldable pub told_text : (coloured : Bool) → Config → Notice → List ℕ
told_text coloured c n = paint coloured (codes "32") ++ told_row c n ++ row_end coloured

-- in a form: as JSON it is the line of the report
abbrev pub told_form : RowForm → Config → Zone → Notice → List ℕ
told_form form c zone n =
    if is_json form then json_text c zone (Decided (Sent n)) else told_text (is_coloured form) c n

abbrev pub told_of : Asked → Config → Zone → Notice → List ℕ
told_of asked c zone n =
    if is_asked c (option_copied asked.contact) n.contact.0 then told_form asked.form c zone n
    else []

-- ---- by which filter a contact is refused, the value that this goes by, and where that stands

unfoldable pub refused_row : Config → Suppression → (k : ℕ) → List ℕ
refused_row c s k =
    codes "    refused      " ++ contact_text c k ++ codes "  "
    ++ contact_filter_text c s.object.0 k s.filter

unfoldable pub refused_text : (coloured : Bool) → (places : List (List ℕ)) → Config → Suppression → (k : ℕ) → List ℕ
refused_text coloured places c s k =
    paint coloured (codes "33") ++ refused_row c s k ++ place_text places (contact_place k s.filter)
    ++ row_end coloured

abbrev pub refused_form : Asked → Config → Zone → Suppression → (k : ℕ) → List ℕ
refused_form asked c zone s k =
    if is_json asked.form then json_text c zone (Decided (Withheld s))
    else refused_text (is_coloured asked.form) asked.places.now c s k

abbrev pub refused_of : Asked → Config → Zone → Suppression → (k : ℕ) → List ℕ
refused_of asked c zone s k =
    if is_asked c (option_copied asked.contact) k then refused_form asked c zone s k else []

-- ---- by which filter the object is stopped, the value that this goes by, and where that stands

unfoldable pub stopped_row : Config → Suppression → List ℕ
stopped_row c s = codes "    stopped      " ++ filter_text c s.object.0 s.filter

unfoldable pub stopped_text : (coloured : Bool) → (places : List (List ℕ)) → Config → Suppression → List ℕ
stopped_text coloured places c s =
    paint coloured (codes "31") ++ stopped_row c s ++ place_text places (object_place s.filter)
    ++ row_end coloured

-- how a row of what a filter stopped went on after its first
unfoldable pub more_row : Zone → (moment more : ℕ) → List ℕ
more_row zone moment more =
    codes "    and again    " ++ decimal more ++ codes " times, up to " ++ local_text zone moment
    ++ codes "\n"
