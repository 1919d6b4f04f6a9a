-- The rows of a table of who is told.
use Rattle.std.specs.Prelude.{ℕ, Bool, true, false, List, [], ◌∷◌, ◌++◌, codes, flat_map, if◌then◌else◌}
use Rattle.std.specs.List.{list_any}
use Rattle.due_model.specs.declared.config.Config.{Config}
use Rattle.due_model.specs.declared.notice.Notice.{Notice}
use Rattle.due_model.specs.declared.zone.Zone.{Zone}
use Rattle.messages.specs.declared.entries.Entry.TheVariants.{Sent, Withheld}
use Rattle.notice_text.specs.claims.Texts.{contact_text, lane_text, number_text, object_text}
use Rattle.local_text.specs.Text.{local_text}
use Rattle.line_forms.specs.declared.report_line.ReportLine.{ReportLine}
use Rattle.line_forms.specs.declared.report_line.ReportLine.TheVariants.{Decided, Refused}
use Rattle.line_forms.specs.Json.{json_text}
use Rattle.line_forms.specs.Plain.{plain_text}
use Rattle.pretty_lines.specs.declared.columns.Look.{Look}
use Rattle.pretty_lines.specs.Columns.{widths_of}
use Rattle.pretty_lines.specs.Lines.{line_text}
use Rattle.who_missed.specs.declared.forms.RowForm.{RowForm}
use Rattle.who_missed.specs.declared.forms.RowForm.TheVariants.{Json, Plain, Pretty}
use Rattle.who_missed.specs.Forms.{is_json}

-- ---- as text

-- when a notice is told, and its number
unfoldable pub when_text : Zone → Notice → List ℕ
when_text zone n = local_text zone n.moment ++ codes "  " ++ number_text n.number ++ codes "  "

-- whom it tells, and by what
unfoldable pub whom_text : Config → Notice → List ℕ
whom_text c n = contact_text c n.contact.0 ++ codes "  " ++ lane_text c n.lane.0 ++ codes "  "

-- a notice as a row: when, the number, the contact, the command and the object
unfoldable pub notice_row : Config → Zone → Notice → List ℕ
notice_row c zone n = when_text zone n ++ whom_text c n ++ object_text c n.object.0 ++ 10 ∷ []

-- What is written of a line of the report: a notice is a row, a refused line stands as in the report, and what was
-- withheld has no row.
abbrev pub plain_row : Config → Zone → ReportLine → List ℕ
plain_row c zone (Decided (Sent n)) = notice_row c zone n
plain_row c zone (Decided (Withheld s)) = []
plain_row c zone (Refused refused) = plain_text c (Refused refused)

-- ---- in a form

-- how rows for people look: the columns are as wide as the configuration has it
abbrev pub look_of : RowForm → Config → Look
look_of Plain c = record { widths = record { object = 0; contact = 0 }; coloured = false }
look_of (Pretty coloured) c = record { widths = widths_of c; coloured = coloured }
look_of Json c = record { widths = record { object = 0; contact = 0 }; coloured = false }

-- a line of the report has a row
abbrev pub has_row : ReportLine → Bool
has_row (Decided (Sent n)) = true
has_row (Decided (Withheld s)) = false
has_row (Refused refused) = true

-- for people, and as JSON, it is the line of the report in that form
abbrev pub form_row : RowForm → Look → Config → Zone → ReportLine → List ℕ
form_row Plain look c zone line = plain_row c zone line
form_row (Pretty coloured) look c zone line = line_text c zone look line
form_row Json look c zone line = json_text c zone line

abbrev pub row_text : RowForm → Look → Config → Zone → ReportLine → List ℕ
row_text form look c zone line = if has_row line then form_row form look c zone line else []

-- what stands there where there is no row; as JSON nothing
abbrev pub nobody_row : RowForm → List ℕ
nobody_row form = if is_json form then [] else codes "nobody is told\n"

abbrev pub nobody_text : RowForm → (has_rows : Bool) → List ℕ
nobody_text form true = []
nobody_text form false = nobody_row form

-- lines of a report as rows, in order
abbrev pub rows_text : RowForm → Config → Zone → List ReportLine → List ℕ
rows_text form c zone lines =
    flat_map (row_text form (look_of form c) c zone) lines
    ++ nobody_text form (list_any has_row lines)
