-- Who is no receiver of an attempt though the configuration names them, and why.
use Rattle.std.specs.Prelude.{ℕ, Bool, not, ◌&&◌, ◌||◌, List, [], ◌++◌, codes, decimal, flat_map, Option, None, Some, if◌then◌else◌}
use Rattle.std.specs.List.{list_any, range_with_len}
use Rattle.std.specs.Option.{option_copied}
use Rattle.due_model.specs.claims.Limits.{last_moment}
use Rattle.due_model.specs.declared.config.Config.{Config}
use Rattle.messages.specs.declared.entries.Entry.TheVariants.{Sent, Withheld}
use Rattle.notice_text.specs.claims.Texts.{contact_text}
use Rattle.line_forms.specs.declared.report_line.ReportLine.{ReportLine}
use Rattle.line_forms.specs.declared.report_line.ReportLine.TheVariants.{Decided, Refused}
use Rattle.pretty_lines.specs.Columns.{paint}
use Rattle.who_missed.specs.declared.forms.RowForm.{RowForm}
use Rattle.who_missed.specs.Forms.{is_coloured, is_json, reason_json, row_end}
use Rattle.who_missed.specs.Missed.{escalations_text, has_command, is_named, refuses, tells}
use Rattle.why_told.specs.declared.teller.Asked.{Asked}
use Rattle.why_told.specs.Rows.{is_asked}

-- the lines of an attempt tell of a contact
abbrev pub is_met : List ReportLine → (k : ℕ) → Bool
is_met lines k = list_any (λ line. tells k line || refuses k line) lines

-- why a contact is no receiver of the attempt of these lines: by the escalations of the object
abbrev pub no_receiver_text : Config → (o k : ℕ) → List ReportLine → List ℕ
no_receiver_text c o k lines =
    if has_command c o k then escalations_text c o k last_moment lines
    else codes "no notification command; "

unfoldable pub missing_row : Config → (o k : ℕ) → List ReportLine → List ℕ
missing_row c o k lines =
    codes "    no receiver  " ++ contact_text c k ++ codes "  " ++ no_receiver_text c o k lines

unfoldable pub missing_text : (coloured : Bool) → Config → (o k : ℕ) → List ReportLine → List ℕ
missing_text coloured c o k lines =
    paint coloured (codes "2") ++ missing_row c o k lines ++ codes "not told" ++ row_end coloured

-- as an object of JSON, with the number of the attempt's event
unfoldable pub missing_json : Config → (o event k : ℕ) → List ReportLine → List ℕ
missing_json c o event k lines =
    reason_json (contact_text c k) (no_receiver_text c o k lines) ++ codes ",\"event\":"
    ++ decimal event ++ codes "}\n"

abbrev pub missing_form : RowForm → Config → (o event k : ℕ) → List ReportLine → List ℕ
missing_form form c o event k lines =
    if is_json form then missing_json c o event k lines
    else missing_text (is_coloured form) c o k lines

-- The configuration names the contact for the object, it is asked for, and the attempt doesn't tell of it.
abbrev pub is_missing : Asked → Config → (o : ℕ) → List ReportLine → (k : ℕ) → Bool
is_missing asked c o lines k =
    is_named c o k && is_asked c (option_copied asked.contact) k && not (is_met lines k)

abbrev pub missing_at : Asked → Config → (o event : ℕ) → List ReportLine → (k : ℕ) → List ℕ
missing_at asked c o event lines k =
    if is_missing asked c o lines k then missing_form asked.form c o event k lines else []

-- who is no receiver of the attempt of these lines, by their numbers
abbrev pub first_missing : Asked → Config → (o event : ℕ) → List ReportLine → (count : ℕ) → List ℕ
first_missing asked c o event lines count =
    flat_map (missing_at asked c o event lines) (range_with_len 0 count)

unfoldable pub all_missing : Asked → Config → (o event : ℕ) → List ReportLine → List ℕ
all_missing asked c o event lines = first_missing asked c o event lines 65536

-- the same, of the object and the event of a line
abbrev pub missing_by : Asked → Config → List ReportLine → ReportLine → List ℕ
missing_by asked c lines (Decided (Sent n)) = all_missing asked c n.object.0 n.event lines
missing_by asked c lines (Decided (Withheld s)) = all_missing asked c s.object.0 s.event lines
missing_by asked c lines (Refused refused) = []

abbrev pub missing_of : Asked → Config → List ReportLine → Option ReportLine → List ℕ
missing_of asked c lines None = []
missing_of asked c lines (Some line) = missing_by asked c lines line
