-- The lines of notices that one of two configurations alone gives.
use Rattle.std.specs.Prelude.{ℕ, ◌==◌, Bool, List, [], ◌∷◌, ◌++◌, codes, drop, flat_map, if◌then◌else◌}
use Rattle.due_model.specs.declared.config.Config.{Config}
use Rattle.due_model.specs.declared.notice.Notice.{Notice}
use Rattle.due_model.specs.declared.zone.Zone.{Zone}
use Rattle.messages.specs.declared.entries.Entry.TheVariants.{Sent}
use Rattle.line_forms.specs.declared.report_line.ReportLine.TheVariants.{Decided}
use Rattle.line_forms.specs.Json.{json_text}
use Rattle.line_forms.specs.Plain.{plain_text}
use Rattle.pretty_lines.specs.declared.columns.Look.{Look}
use Rattle.pretty_lines.specs.Columns.{paint, unpaint}
use Rattle.pretty_lines.specs.Lines.{line_text}
use Rattle.changed_notices.specs.declared.changed.ChangeForm.{ChangeForm}
use Rattle.changed_notices.specs.declared.changed.ChangeForm.TheVariants.{Json, Plain, Pretty}
use Rattle.changed_notices.specs.Left.{gained, lost}

-- ---- for people

abbrev pub sign_colour : (sign : ℕ) → List ℕ
sign_colour sign = if sign == 45 then codes "31" else codes "32"

-- a sign in its colour, and a blank
unfoldable pub sign_front : (coloured : Bool) → (sign : ℕ) → List ℕ
sign_front coloured sign =
    paint coloured (sign_colour sign) ++ (sign ∷ []) ++ unpaint coloured ++ codes " "

-- the columns are of these widths, whatever names the configurations have
abbrev pub change_look : (coloured : Bool) → Look
change_look coloured = record {
  widths = record { object = 24; contact = 12 };
  coloured = coloured;
}

-- a notice's line for people after a sign
unfoldable pub pretty_line : (coloured : Bool) → (sign : ℕ) → Config → Zone → Notice → List ℕ
pretty_line coloured sign c zone n =
    sign_front coloured sign ++ line_text c zone (change_look coloured) (Decided (Sent n))

-- ---- in a form

-- A notice's line of a report, with a sign in place of its letter: the line begins with that, and as JSON with eleven bytes
-- before it.
abbrev pub changed_line : ChangeForm → (sign : ℕ) → Config → Zone → Notice → List ℕ
changed_line Plain sign c zone n = sign ∷ drop 1 (plain_text c (Decided (Sent n)))
changed_line (Pretty coloured) sign c zone n = pretty_line coloured sign c zone n
changed_line Json sign c zone n =
    codes "{\"letter\":\"" ++ sign ∷ drop 12 (json_text c zone (Decided (Sent n)))

abbrev pub changed_lines : ChangeForm → (sign : ℕ) → Config → Zone → List Notice → List ℕ
changed_lines form sign c zone ns = flat_map (changed_line form sign c zone) ns

-- after a minus the notices that the first alone gives, after a plus those of the second alone
abbrev pub changes_of : ChangeForm → Config → Config → Zone → (before after : List Notice) → List ℕ
changes_of form a b zone before after =
    changed_lines form 45 a zone (lost a b before after)
    ++ changed_lines form 43 b zone (gained a b before after)

-- the same line by line of a feed, of what each configuration gives of its lines
abbrev pub changes_text : ChangeForm → Config → Config → Zone → List (List Notice)
    → List (List Notice) → List ℕ
changes_text form a b zone [] others = []
changes_text form a b zone (ns ∷ nss) [] = []
changes_text form a b zone (ns ∷ nss) (ms ∷ mss) =
    changes_of form a b zone ns ms ++ changes_text form a b zone nss mss
