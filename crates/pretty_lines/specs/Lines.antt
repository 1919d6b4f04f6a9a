-- A line of a report for people.
use Rattle.std.specs.Prelude.{ℕ, ◌==◌, List, [], ◌∷◌, ◌++◌, codes, decimal, Option, None, Some, if◌then◌else◌}
use Rattle.due_model.specs.declared.config.Config.{Config}
use Rattle.due_model.specs.declared.config.ContactId.{ContactId}
use Rattle.due_model.specs.declared.notice.Kind.{Kind}
use Rattle.due_model.specs.declared.notice.Kind.TheVariants as kind
use Rattle.due_model.specs.declared.notice.Notice.{Notice}
use Rattle.due_model.specs.declared.notice.Suppression.{Suppression}
use Rattle.due_model.specs.declared.state.State.{State}
use Rattle.due_model.specs.declared.zone.Zone.{Zone}
use Rattle.event_feed.specs.declared.fault.FeedFault.{FeedFault}
use Rattle.event_feed.specs.declared.fault.RefusedLine.{RefusedLine}
use Rattle.event_feed.specs.claims.Fault.{fault_name}
use Rattle.local_text.specs.Text.{iso_text}
use Rattle.messages.specs.declared.entries.Entry.TheVariants.{Sent, Withheld}
use Rattle.notice_text.specs.claims.Names.{filter_name, kind_name, state_name}
use Rattle.notice_text.specs.claims.Texts.{contact_text, lane_text, number_text, object_text}
use Rattle.line_forms.specs.declared.report_line.ReportLine.{ReportLine}
use Rattle.line_forms.specs.declared.report_line.ReportLine.TheVariants.{Decided, Refused}
use Rattle.pretty_lines.specs.declared.columns.Look.{Look}
use Rattle.pretty_lines.specs.Columns.{padded, paint, unpaint}

-- what comes between columns
abbrev pub gap : List ℕ
gap = codes "  "

-- ---- the columns

-- when it is, with the clock's offset from UTC, and of which object
unfoldable pub when_text : Config → Zone → Look → (moment o : ℕ) → List ℕ
when_text c zone look moment o =
    iso_text zone moment ++ gap ++ padded look.widths.object (object_text c o) ++ gap

-- the kind and the state
unfoldable pub condition_text : Kind → State → List ℕ
condition_text k state = padded 13 (kind_name k) ++ gap ++ padded 11 (state_name state) ++ gap

-- the number of the notice, and the contact
unfoldable pub contact_columns : Config → Look → (number k : ℕ) → List ℕ
contact_columns c look number k =
    padded 2 (number_text number) ++ gap ++ padded look.widths.contact (contact_text c k) ++ gap

-- ---- the colours: of problems, recoveries and other notices; of contacts that are refused, of what is stopped, and of refused
-- lines of the feed

abbrev pub kind_colour : Kind → List ℕ
kind_colour kind.Problem = codes "31"
kind_colour kind.Recovery = codes "32"
kind_colour kind.FlappingStart = codes "36"
kind_colour kind.FlappingStop = codes "36"
kind_colour kind.DowntimeStart = codes "36"
kind_colour kind.DowntimeEnd = codes "36"
kind_colour kind.DowntimeCancelled = codes "36"
kind_colour kind.Acknowledgement = codes "36"

-- ---- the lines

-- the end of a line
unfoldable pub line_end : Look → List ℕ
line_end look = unpaint look.coloured ++ 10 ∷ []

-- how a line begins: its colour, and these columns
unfoldable pub line_front : Config → Zone → Look → (colour : List ℕ) → (moment o : ℕ) → Kind → State
    → List ℕ
line_front c zone look colour moment o k state =
    paint look.coloured colour ++ when_text c zone look moment o ++ condition_text k state

-- how the line of a notice ends
unfoldable pub told_end : Config → Look → Notice → List ℕ
told_end c look n =
    codes "told     " ++ contact_columns c look n.number n.contact.0 ++ lane_text c n.lane.0
    ++ line_end look

unfoldable pub told_text : Config → Zone → Look → Notice → List ℕ
told_text c zone look n =
    line_front c zone look (kind_colour n.kind) n.moment n.object.0 n.kind n.state
    ++ told_end c look n

-- that of a contact that was refused
unfoldable pub refused_end : Config → Look → Suppression → ContactId → List ℕ
refused_end c look s contact =
    codes "refused  " ++ contact_columns c look s.number contact.0 ++ filter_name s.filter
    ++ line_end look

unfoldable pub refused_text : Config → Zone → Look → Suppression → ContactId → List ℕ
refused_text c zone look s contact =
    line_front c zone look (codes "33") s.moment s.object.0 s.kind s.state
    ++ refused_end c look s contact

-- a refused line of the feed: its number, and its fault
unfoldable pub fault_front : Look → (line : ℕ) → List ℕ
fault_front look line =
    paint look.coloured (codes "35") ++ codes "line " ++ decimal line ++ codes " of the feed: "

unfoldable pub fault_end : Look → FeedFault → List ℕ
fault_end look fault = fault_name fault ++ line_end look

unfoldable pub fault_text : Look → RefusedLine → List ℕ
fault_text look refused = fault_front look refused.line ++ fault_end look refused.fault

-- how often more it was stopped so, if it was
unfoldable pub more_text : (more : ℕ) → List ℕ
more_text more = if more == 0 then [] else codes ", " ++ decimal more ++ codes " times more"

unfoldable pub stopped_end : Look → Suppression → (more : ℕ) → List ℕ
stopped_end look s more =
    codes "stopped  " ++ filter_name s.filter ++ more_text more ++ line_end look

-- a filter of the object stopped something; and so many times more in a row, the last time so
unfoldable pub stopped_text : Config → Zone → Look → Suppression → (more : ℕ) → List ℕ
stopped_text c zone look s more =
    line_front c zone look (codes "2") s.moment s.object.0 s.kind s.state ++ stopped_end look s more

-- a suppression: of the object, or of one contact
abbrev pub withheld_text : Config → Zone → Look → Suppression → Option ContactId → List ℕ
withheld_text c zone look s None = stopped_text c zone look s 0
withheld_text c zone look s (Some contact) = refused_text c zone look s contact

abbrev pub line_text : Config → Zone → Look → ReportLine → List ℕ
line_text c zone look (Decided (Sent n)) = told_text c zone look n
line_text c zone look (Decided (Withheld s)) = withheld_text c zone look s s.contact
line_text c zone look (Refused refused) = fault_text look refused
